-- Changes of a half-link (02, A7): of a plan's half-links, and of a table's words and bytes.
-- Assumes nothing.
use Rattle.std.specs.Prelude.{ℕ, ◌+◌, ◌*◌, ◌-◌, ◌/◌, ◌^◌, Bool, cond, ◌&&◌, eqb, length, take, drop}
use mathlib.Core.List.{List, [], ◌∷◌, ◌++◌, flat_map}
use Rattle.std.proofs.Math.Option.{Option, none, some}
use Rattle.lists.specs.Lists.{first_passing}
use Rattle.rule.specs.Words.{words_of, bytes_of, word}
use Rattle.rule.specs.Records.{HalfLink}
use Rattle.rule.specs.Plan.{Plan}
use Rattle.edits.specs.declared.change.HalfLinkName.{HalfLinkName}

-- "An instructor changes a metric or withdraws a half-link": the half-link named, and its new metric, or none where it is withdrawn.
pub record Change : Type 0 where
  pub name : HalfLinkName
  pub metric : Option ℕ

-- "A half-link is named by near bridge and port."
abbrev pub is_named : HalfLinkName → HalfLink → Bool
is_named n h = eqb h.near n.near && eqb h.port n.port

-- The plan's half-links

-- A half-link with another metric, and all else as it was.
abbrev pub with_metric : ℕ → HalfLink → HalfLink
with_metric m h =
    record { down = h.down; metric = m; near = h.near; far = h.far; port = h.port; link = h.link }

-- What takes the place of the half-link named: itself with the new metric, or nothing.
abbrev pub replaced_by : Option ℕ → HalfLink → List HalfLink
replaced_by none h = []
replaced_by (some m) h = with_metric m h ∷ []

abbrev pub after_change : Change → HalfLink → List HalfLink
after_change c h = cond (is_named c.name h) (replaced_by c.metric h) (h ∷ [])

-- The edited plan: the half-link named is changed or gone, and all other records stay.
abbrev pub changed_plan : Change → Plan → Plan
changed_plan c p =
    record {
      bridges = p.bridges;
      half_links = flat_map (after_change c) p.half_links;
      vids = p.vids;
      members = p.members;
      traffic = p.traffic;
    }

-- The table's words

-- The first word of the half-link named: behind the bridges, three words each, and the half-links before it.
abbrev pub word_of : Plan → HalfLinkName → ℕ
word_of p n = 3 * length p.bridges + 3 * first_passing (is_named n) p.half_links

-- "A metric change replaces the 24 metric bits": bits 31..24 of the word stay.
abbrev pub with_metric_bits : ℕ → ℕ → ℕ
with_metric_bits m w = w / 2 ^ 24 * 2 ^ 24 + m

-- "lowers the end count by 3": that of the last word, whose low bits the count has.
unfoldable pub with_lower_count : List ℕ → List ℕ
with_lower_count [] = []
with_lower_count (w ∷ []) = (w - 3) ∷ []
with_lower_count (w ∷ v ∷ ws) = w ∷ with_lower_count (v ∷ ws)

-- The words of the edited table, where the half-link named has its first word at `k`. "a withdrawal removes the three words and lowers the
-- end count by 3".
abbrev pub changed_words : Option ℕ → ℕ → List ℕ → List ℕ
changed_words (some m) k ws = take k ws ++ (with_metric_bits m (word ws k) ∷ drop (k + 1) ws)
changed_words none k ws = take k ws ++ with_lower_count (drop (k + 3) ws)

-- The bytes of the edited table.
unfoldable pub changed_table : Plan → Change → List ℕ → List ℕ
changed_table p c t = flat_map bytes_of (changed_words c.metric (word_of p c.name) (words_of t))
