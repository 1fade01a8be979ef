-- The reading of a table kind by kind: how far it has come, and what reading the records of a kind comes to. Assumes nothing.
use Rattle.std.specs.Prelude.{ℕ, ◌+◌, ◌-◌, ◌≤◌, ◌<◌, ◌≡◌, List, Result, Ok, Err, Bool, false, ◌&&◌, eqb, ltb, length}
use Rattle.rule.specs.declared.refusal.Refusal.{Refusal}
use Rattle.rule.specs.Words.{word, bits}
use Rattle.rule.specs.Refusals.{refused_by}
use Rattle.rule.specs.Check.{read_on, start}
use Rattle.table.specs.declared.shape.Shape.{Shape}
use Rattle.table.specs.Positions.{half_links_from, vids_from, members_from, traffic_from, words_read, reading_at}
use Rattle.earlier.specs.HalfLinks.{number_key, Keyed}

-- Whether a record of the kind begins at the word `at`: "A record's first word holds its kind in bits 31..28".
abbrev pub is_kind : List ℕ → ℕ → ℕ → Bool
is_kind ws kind at = ltb at (length ws) && eqb (bits (word ws at) 31 28) kind

abbrev pub records_read : Shape → ℕ
records_read s = s.bridges + s.half_links + s.vids + s.members + s.traffic

-- The reading has come to the records of `s`: what is left to read, from there, comes to what the whole table comes to. There are no
-- more VIDs than there may be, so that they can be entered into an index.
pub record Reached (ws : List ℕ) (s : Shape) : Type 0 where
  pub rest : read_on (length ws - records_read s) ws (reading_at ws s) ≡ read_on (length ws) ws start
  pub within : words_read s ≤ length ws
  pub few_vids : s.vids ≤ 16

-- There are as many records of the other kinds.
pub record SameOthers (kind : ℕ) (s t : Shape) : Type 0 where
  pub bridges : (kind ≡ 1 → ⊥) → t.bridges ≡ s.bridges
  pub half_links : (kind ≡ 2 → ⊥) → t.half_links ≡ s.half_links
  pub vids : (kind ≡ 3 → ⊥) → t.vids ≡ s.vids
  pub members : (kind ≡ 4 → ⊥) → t.members ≡ s.members
  pub traffic : (kind ≡ 5 → ⊥) → t.traffic ≡ s.traffic

-- A refusal is the verdict.
abbrev pub Refuses : List ℕ → Result Shape Refusal → Type 0
Refuses ws r = (refusal : Refusal) → r ≡ Err refusal → refused_by refusal ≡ read_on (length ws) ws start

-- All records of the kind that stand after those of `s` were read, or one was refused.
pub record Run (ws : List ℕ) (kind : ℕ) (s : Shape) (r : Result Shape Refusal) : Type 0 where
  pub reached : (t : Shape) → r ≡ Ok t → Reached ws t
  pub ended : (t : Shape) → r ≡ Ok t → is_kind ws kind (words_read t) ≡ false
  pub others : (t : Shape) → r ≡ Ok t → SameOthers kind s t
  pub refuses : Refuses ws r

-- The list is the index of the link numbers of the half-links.
abbrev pub Numbers : List ℕ → List ℕ → Shape → Type 0
Numbers ws links s = Keyed number_key links ws (half_links_from s) s.half_links

abbrev pub NumbersKept : List ℕ → List ℕ → Result Shape Refusal → Type 0
NumbersKept ws links r = (t : Shape) → r ≡ Ok t → Numbers ws links t

-- All records of the kinds before `kind` are read and none of the others: where those of a kind end no record of it follows.
pub record Before (ws links : List ℕ) (kind : ℕ) (s : Shape) : Type 0 where
  pub reached : Reached ws s
  pub numbers : Numbers ws links s
  pub no_bridges : kind ≤ 1 → s.bridges ≡ 0
  pub no_half_links : kind ≤ 2 → s.half_links ≡ 0
  pub no_vids : kind ≤ 3 → s.vids ≡ 0
  pub no_members : kind ≤ 4 → s.members ≡ 0
  pub no_traffic : kind ≤ 5 → s.traffic ≡ 0
  pub bridges_end : 1 < kind → is_kind ws 1 (half_links_from s) ≡ false
  pub half_links_end : 2 < kind → is_kind ws 2 (vids_from s) ≡ false
  pub vids_end : 3 < kind → is_kind ws 3 (members_from s) ≡ false
  pub members_end : 4 < kind → is_kind ws 4 (traffic_from s) ≡ false
  pub traffic_end : 5 < kind → is_kind ws 5 (words_read s) ≡ false

-- The records of the kind were read, or one was refused.
pub record KindRead (ws links : List ℕ) (kind : ℕ) (r : Result Shape Refusal) : Type 0 where
  pub next : (t : Shape) → r ≡ Ok t → Before ws links (kind + 1) t
  pub refuses : Refuses ws r
