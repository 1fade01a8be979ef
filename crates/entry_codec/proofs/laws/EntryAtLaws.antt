-- The entry that begins at a word of a list, and the words after it. Assumes nothing.
use Rattle.std.specs.Prelude.{ℕ, ◌+◌, ◌-◌, ◌≤◌, ◌≡◌, List, ◌∷◌, length, drop}
use Rattle.std.proofs.Common.{arith, ap, ◌∙◌}
use Rattle.lists.proofs.laws.MemberLaws.{drop-next}
use Rattle.rule.specs.Words.{word}
use Rattle.rule.specs.Entries.{Entry}
use Rattle.rule.specs.Lookup.{entry_of}

-- The entry that begins with the word `at`.
abbrev pub entry_at : List ℕ → ℕ → Entry
entry_at ws at = entry_of (word ws at) (word ws (at + 1)) (word ws (at + 2))

pub three-words : (ws : List ℕ) (at : ℕ) → 3 ≤ length ws - at
    → drop at ws ≡ word ws at ∷ word ws (at + 1) ∷ word ws (at + 2) ∷ drop (at + 3) ws
three-words ws at h =
    drop-next ws at (at + 1) 0 (omega arith) (omega arith)
    ∙ ap (λ (t : List ℕ). word ws at ∷ t) (drop-next ws (at + 1) (at + 2) 0 (omega arith) (omega arith)
    ∙ ap (λ (t : List ℕ). word ws (at + 1) ∷ t) (drop-next ws (at + 2) (at + 3) 0 (omega arith) (omega arith)))
