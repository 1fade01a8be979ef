-- A listing given part by part (01, "Listing program"): what is left to give, and what the next part is. Assumes nothing.
use Rattle.std.specs.Prelude.{ℕ, ◌+◌, ◌-◌, ◌≤◌, ◌<◌, ◌≡◌, Option, Some, None, Ok, length, get_or, take, drop}
use mathlib.Core.List.{List, [], ◌∷◌, ◌++◌, map, flat_map}
use Rattle.lists.specs.Lists.{rising}
use Rattle.rule.specs.Words.{words_of}
use Rattle.rule.specs.Outcome.{Outcome, answered, refused}
use Rattle.rule.specs.Plan.{Plan}
use Rattle.rule.specs.Check.{verdict}
use Rattle.rule.specs.Calls.{counts_of}
use Rattle.table.specs.declared.shape.Shape.{Shape}
use Rattle.table.specs.Positions.{plan_at}
use Rattle.verdict.specs.Examination.{examined_values}
use Rattle.network.specs.Networks.{TableNetwork}
use Rattle.trees.specs.Store.{TreesKept}
use Rattle.text.specs.Text.{line}
use Rattle.check_text.specs.CheckText.{refused_word}
use Rattle.listing_progress.specs.declared.progress.Progress.{Progress}
use Rattle.listing_progress.specs.declared.progress.Part.{Part}
use Rattle.listing_parts.specs.Parts.{part_count, listing_part}

-- The parts of a listing by the verdict on the table, in order: those of an accepted plan, or the one line of a refusal.
unfoldable pub parts_of : Outcome Plan → List (List ℕ)
parts_of (answered p) = map (listing_part p) (rising 0 (part_count p))
parts_of (refused number kind at) = line refused_word (number ∷ at ∷ []) ∷ []

-- The parts one after the other.
abbrev pub together : List (List ℕ) → List ℕ
together parts = flat_map (λ part. part) parts

-- How many parts are left, and the bytes that are left to give.
abbrev pub parts_left : List ℕ → Progress → ℕ
parts_left t b = length (parts_of (verdict t)) - b.given

unfoldable pub remaining : List ℕ → Progress → List ℕ
remaining t b = together (drop b.given (parts_of (verdict t)))

-- One part more was given.
abbrev pub one_more : Progress → ℕ → Part
one_more b written = record { written = written; after = record { examined = b.examined; counts = b.counts; given = b.given + 1 } }

-- A part given: with what is left after it, it is what was left before it.
abbrev pub Gives : List ℕ → Progress → List ℕ → Progress → Type 0
Gives t before part after = part ++ remaining t after ≡ remaining t before

-- What the answer to "the next part?" says: the part at the front of the lent bytes, or that nothing is left.
abbrev pub NextOf : List ℕ → Progress → List ℕ → Option Part → Type 0
NextOf t before out (Some part) = (part.written ≤ length out) × Gives t before (take part.written out) part.after
NextOf t before out None = remaining t before ≡ []

-- Parts given one after the other, until none is left.
abbrev pub GivenParts : List ℕ → Progress → List (List ℕ) → Type 0
GivenParts t b [] = remaining t b ≡ []
GivenParts t b (part ∷ parts) = (after : Progress) × Gives t b part after × GivenParts t after parts

-- A list of zeros: a store of trees that holds none.
abbrev pub AllZero : List ℕ → Type 0
AllZero store = (i : ℕ) → i < length store → get_or store i 0 ≡ 0

-- The network of an accepted table, the store of its trees, and its counts, as the parts of its listing need them.
pub record PartsReady (t : List ℕ) (b : Progress) (s : Shape) (net store : List ℕ) : Type 0 where
  pub table_network : TableNetwork t s net
  pub trees_kept : TreesKept net store
  pub counted : b.counts ≡ counts_of (plan_at (words_of t) s)

-- A listing underway: the verdict is that on the table, and where it accepts the table its parts can be made.
pub record Underway (t : List ℕ) (b : Progress) (net store : List ℕ) : Type 0 where
  pub of_table : examined_values (words_of t) b.examined ≡ verdict t
  pub accepted : (s : Shape) → b.examined ≡ Ok s → PartsReady t b s net store

-- After a part was given the listing is underway still, with fewer parts left.
abbrev pub GoesOn : List ℕ → Progress → List ℕ → List ℕ → Option Part → Type 0
GoesOn t before net store (Some part) = Underway t part.after net store × (parts_left t part.after < parts_left t before)
GoesOn t before net store None = Unit {0}
