use mathlib.Core.Path.{◌≡◌}
use Prim.Native.Nat.{◌^◌, ◌<◌}
use lib.ListN.{drop, take}
use Rattle.fields.specs.Fields.{value}
use Rattle.fields.proofs.number_of.Given as goal

abbrev pub invariant-loop-x : goal.invariant-loop-x
invariant-loop-x l = (l.v < 10 ^ l.x-index) × (value 0 (take l.count l.s) ≡ value l.v (drop l.x-index (take l.count l.s)))
