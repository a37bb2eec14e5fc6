-- The number and the detail of each refusal. Document 01, "Where each call stops": the table, "with one detail (0 where none is named)".
use Rattle.std.specs.Prelude.{ℕ, Bool, true, false, Result, Ok, Err}
use Rattle.refusals.specs.declared.Answer.{Answer}
use Rattle.refusals.specs.declared.Refusal.{Refusal}
use Rattle.refusals.specs.declared.Refusal.TheVariants.{ModeCount, StartMode, ArcLists, ColourCount, UnfitArc, Levels, Product, WorkingSpace, PlanBuffer, NoPlan, PlanLength, ArcNumber, OtherMode, OpenCycle, ImpossibleStep, FallingCycle, MissingColour, NoSuchColour, HoaLine, DimacsLine, TextsDisagree, MixedGauge, JoinSize, BarredColour}

-- number and detail
abbrev pub answer : ℕ → ℕ → Answer
answer n d = record { number = n; detail = d }

-- the table
abbrev pub numbered : Refusal → Answer
numbered ModeCount = answer 1 0
numbered StartMode = answer 2 0
numbered ArcLists = answer 3 0
numbered ColourCount = answer 4 0
numbered (UnfitArc arc) = answer 5 arc
numbered Levels = answer 6 0
numbered Product = answer 7 0
numbered WorkingSpace = answer 8 0
numbered PlanBuffer = answer 9 0
numbered NoPlan = answer 10 0
numbered PlanLength = answer 11 0
numbered (ArcNumber position) = answer 12 position
numbered (OtherMode position) = answer 13 position
numbered OpenCycle = answer 14 0
numbered (ImpossibleStep step) = answer 15 step
numbered FallingCycle = answer 16 0
numbered (MissingColour colour) = answer 17 colour
numbered NoSuchColour = answer 18 0
-- document 02, Ask 1
numbered (HoaLine line) = answer 19 line
numbered (DimacsLine line) = answer 20 line
numbered TextsDisagree = answer 21 0
-- Ask 3
numbered MixedGauge = answer 22 0
-- Ask 5
numbered JoinSize = answer 23 0
-- Ask 6
numbered (BarredColour position) = answer 24 position

-- what a check says: yes, or where the call stops
abbrev pub Verdict : Type 0
Verdict = Result Unit Refusal

-- the yes is 0, with detail 0
abbrev pub answer_of : Verdict → Answer
answer_of (Ok _) = answer 0 0
answer_of (Err r) = numbered r

-- "Checked top to bottom; the first that applies is answered": the refusal where its condition holds, else what is checked after it
abbrev pub refuse : {T : Type 0} → Bool → Refusal → Result T Refusal → Result T Refusal
refuse true r v = Err r
refuse false r v = v

-- a check, and what follows where it says yes
abbrev pub and_then : {T : Type 0} → Verdict → Result T Refusal → Result T Refusal
and_then (Ok _) v = v
and_then (Err r) v = Err r

-- the verdict of a call that hands something back on yes
abbrev pub verdict_of : {T : Type 0} → Result T Refusal → Verdict
verdict_of (Ok _) = Ok tt
verdict_of (Err r) = Err r
