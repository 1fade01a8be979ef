-- How frames move over a graph (01, "Frames"): an individual frame from bridge to bridge, and the rounds of a group frame's copies.
-- Neither knows a table, an entry or a port: where a frame goes from a bridge is a parameter. Assumes nothing.
use Rattle.std.specs.Prelude.{ℕ, zero, suc, ◌<◌, Bool, false, cond, ◌&&◌, ◌||◌, eqb}
use mathlib.Core.List.{List, [], ◌∷◌, ◌++◌, flat_map}
use Rattle.std.proofs.Math.Option.{Option, none, some}
use Rattle.lists.specs.Lists.{rising, selected, any_passes}
use Rattle.graph.specs.Graph.{Graph}
use Rattle.graph.specs.Chosen.{Chosen, chosen}
use Rattle.lists.specs.Members.{In}
use Rattle.lists.proofs.laws.ListNotions.{Distinct}
use Rattle.graph.proofs.laws.Notions.{Leaves}

-- The second bridge of a path.
abbrev pub second : Option (List ℕ) → Option ℕ
second none = none
second (some []) = none
second (some (u ∷ [])) = none
second (some (u ∷ v ∷ t)) = some v

-- Where a frame for `b` goes from the bridge `u`: to the second bridge of the chosen path.
abbrev pub next_hop : Graph → (ℕ → ℕ) → ℕ → ℕ → Option ℕ
next_hop g key b u = second (chosen g key u b)

-- From the bridge entered the frame goes on; without one it is lost.
abbrev pub enters : (ℕ → List ℕ) → Option ℕ → List ℕ
enters on none = []
enters on (some v) = on v

-- "the bridges where it stood, in order": an individual frame for `b` from the bridge `u`, moved at most `n` times.
-- It "stops at b". `next` says which bridge it enters when it leaves one.
unfoldable pub stood : (ℕ → Option ℕ) → ℕ → ℕ → ℕ → List ℕ
stood next b zero u = u ∷ []
stood next b (suc n) u = u ∷ cond (eqb u b) [] (enters (stood next b n) (next u))

-- "A group frame begins in round 0 as one copy at its sender" `s`. "In each next round every copy of the last round leaves":
-- `children` lists, for a bridge, the bridges that a copy there enters next. A round is the list of the bridges where its copies are.
unfoldable pub copies : (ℕ → List ℕ) → ℕ → ℕ → List ℕ
copies children s zero = s ∷ []
copies children s (suc n) = flat_map children (copies children s n)

-- "A bridge is reached once for each copy that enters it; all rounds count": the bridges entered in rounds 1 to `n`.
unfoldable pub entered : (ℕ → List ℕ) → ℕ → ℕ → List ℕ
entered children s zero = []
entered children s (suc n) = entered children s n ++ copies children s (suc n)

-- "A receiver .. whose chosen path from the transmitter passes this bridge and leaves it there":
-- the chosen path from the sender `s` to some receiver goes from `c` to `v`.
abbrev pub Feeds : Graph → (ℕ → ℕ) → ℕ → (ℕ → Type 0) → ℕ → ℕ → Type 0
Feeds g key s Receives c v = (r : ℕ) × Receives r × (p : List ℕ) × Chosen g key s r p × Leaves c v p

-- `Leaves` as a test that computes, and for a path that there may be.
unfoldable pub leaves : ℕ → ℕ → List ℕ → Bool
leaves c v [] = false
leaves c v (x ∷ []) = false
leaves c v (x ∷ y ∷ t) = (eqb c x && eqb v y) || leaves c v (y ∷ t)

abbrev pub leaves_on : ℕ → ℕ → Option (List ℕ) → Bool
leaves_on c v none = false
leaves_on c v (some p) = leaves c v p

-- The bridges that a copy from `s` at the bridge `c` enters next, by number: "as soon as one receiver behind it is found".
unfoldable pub handed : Graph → (ℕ → ℕ) → ℕ → (ℕ → Bool) → ℕ → List ℕ
handed g key s receives c =
    selected (λ v. any_passes (λ r. receives r && leaves_on c v (chosen g key s r)) (rising 0 g.size)) (rising 0 g.size)

-- What every way of handing copies down meets: at each bridge of the graph it lists once each bridge to which
-- the chosen path from the sender to some receiver goes from there, and no other.
pub record HandsDown (g : Graph) (key : ℕ → ℕ) (s : ℕ) (Receives : ℕ → Type 0) (children : ℕ → List ℕ) : Type 0 where
  pub once : (c : ℕ) → c < g.size → Distinct (children c)
  pub fed : (c v : ℕ) → c < g.size → In v (children c) → Feeds g key s Receives c v
  pub feeds : (c v : ℕ) → c < g.size → Feeds g key s Receives c v → In v (children c)
