-- A pass over the nodes of a net, a node being a level and a mode: which arcs it follows, and which arc closes a cycle. Document 001,
-- section 2, degeneralisation: "we split the states of A into levels"; section 4, FindMaxE.
use Rattle.std.specs.Prelude.{ℕ, suc, ◌+◌, ◌*◌, ◌/◌, ◌%◌, ◌≤◌, ◌<◌, ◌≡◌, Bool, true, ◌&&◌, List, leb, eqb}
use Rattle.limits.specs.Ceilings.{modes_most, arcs_most, colours_most, bound_most, product_most, work_words}
use Rattle.walks.specs.BoundedStep.{after}
use Rattle.nets.specs.Net.{Net}
use Rattle.nets.specs.Table.{next}
use Rattle.groups.specs.Grouped.{Grouped}

-- the node of level l and mode t, of n modes
unfoldable pub node : ℕ → ℕ → ℕ → ℕ
node n l t = l * n + t

-- the nodes of the levels 0 to last
abbrev pub nodes : ℕ → ℕ → ℕ
nodes n last = node n (suc last) 0

-- the pairs of a node, of m, and a charge up to b
unfoldable pub room : ℕ → ℕ → ℕ
room m b = m * (b + 1)

-- A pass: the net, the groups by which it finds the arcs that leave a mode, which arcs it may use, the last level, the bound; an arc that
-- comes to the node goal with the charge least or more closes the cycle, and ends the pass.
pub record Pass : Type 0 where
  pub net : Net
  pub places : List ℕ
  pub ok : ℕ → Bool
  pub last : ℕ
  pub bound : ℕ
  pub goal : ℕ
  pub least : ℕ

-- arc a takes node v with charge e to node u with charge x
pub record Along (P : Pass) (a v e u x : ℕ) : Type 0 where
  pub known : a < P.net.count
  pub allowed : P.ok a ≡ true
  pub leaves : P.net.graph.source a ≡ v % P.net.modes
  pub possible : (P.net.graph.move a).draw ≤ e
  pub left : x ≡ after P.bound (P.net.graph.move a) e
  pub enters : u ≡ node P.net.modes (next P.net P.last (v / P.net.modes) a) (P.net.graph.target a)

-- an arc that comes to node u with charge x closes the cycle
unfoldable pub closes_at : ℕ → ℕ → ℕ → ℕ → Bool
closes_at goal least u x = eqb u goal && leb least x

-- What a pass asks of its net, groups and numbers, with a table of m nodes and a working space of size words.
pub record Ready (P : Pass) (m size : ℕ) : Type 0 where
  pub some-mode : 0 < P.net.modes
  pub few_modes : P.net.modes ≤ modes_most
  pub few_arcs : P.net.count ≤ arcs_most
  pub targets : (a : ℕ) → a < P.net.count → P.net.on a ≡ true → P.net.graph.target a < P.net.modes
  pub allows : (a : ℕ) → P.ok a ≡ true → P.net.on a ≡ true
  pub grouped : Grouped P.net.graph.source P.net.on P.net.modes P.net.count P.places
  pub levels : P.last ≤ colours_most
  pub low : P.bound ≤ bound_most
  pub table : m ≡ nodes P.net.modes P.last
  pub small : room m P.bound ≤ (colours_most + 1) * product_most
  pub space : work_words * room m P.bound ≤ size
