-- Laws of path lines: their fields, and the answer that a list holds the bridges of. Assumes nothing.
use Rattle.std.specs.Prelude.{ℕ, ◌+◌, ◌*◌, ◌≤◌, ◌≡◌, List, [], ◌∷◌, ◌++◌, length, take, drop}
use Rattle.std.proofs.Common.{arith, sym, ap, ◌∙◌, append_assoc, length-append}
use Rattle.std.proofs.Math.Option.{Option}
use Rattle.std.proofs.Math.Seq.{take-append_seam}
use Rattle.lists.proofs.laws.GivenLaws.{flat_map_append}
use Rattle.rule.specs.Outcome.{Outcome, answered, refused, Written, overwritten}
use Rattle.rule.specs.Answers.{CostAndHops}
use Rattle.text.specs.Text.{newline, field_text, fields, line, path_word, WrittenAt}
use Rattle.text.proofs.laws.TextLaws.{written-length, written_on, written_as}
use Rattle.listing_lines.specs.PathAnswers.{bridges_given, given_path}

-- Fields of two lists, and what follows them.
pub fields_of_both : (ms ns after : List ℕ) → fields ms ++ (fields ns ++ after) ≡ fields (ms ++ ns) ++ after
fields_of_both ms ns after =
    sym (append_assoc (fields ms) (fields ns) after) ∙ ap (λ (t : List ℕ). t ++ after) (sym (flat_map_append field_text ms ns))

-- The texts of a path line one after the other: the word, five numbers and at most 64 bridges, then the newline.
pub path-line-written : (numbers bridges : List ℕ) {at : ℕ} {out out₁ out₂ out₃ out₄ : List ℕ} {a b d end : ℕ}
    → WrittenAt at out out₁ path_word a → WrittenAt a out₁ out₂ (fields numbers) b × (b ≤ a + 55)
    → WrittenAt b out₂ out₃ (fields bridges) d × (d ≤ b + 11 * length bridges) → WrittenAt d out₃ out₄ (newline ∷ []) end
    → length bridges ≤ 64 → at + 764 ≤ length out → WrittenAt at out out₄ (line path_word (numbers ++ bridges)) end × (end ≤ at + 764)
path-line-written numbers bridges W N B L few room =
    let (numbers-written, numbers-end) = N
    in let (bridges-written, bridges_end) = B
    in let word-length = written-length W (omega (arith, W.end_is))
    in let numbers-length = written-length numbers-written (omega (arith, W.end_is, word-length))
    in (
      written_as
          (written_on W
          (written_on numbers-written (written_on bridges-written L (omega (arith, W.end_is, word-length, numbers-length)))
          (omega (arith, W.end_is, word-length)))
          (omega (arith, W.end_is)))
          _ (ap (λ (t : List ℕ). path_word ++ t) (fields_of_both numbers bridges (newline ∷ []))),
      omega (arith, W.end_is, L.end_is),
    )

-- The answer `o` gives a path of `count` bridges: the list has them, and they are those of the line.
module _ (o : Outcome CostAndHops) (list : List ℕ) {cost hops count : ℕ} (given : o ≡ answered (record { cost = cost; hops = hops }))
    (counted : count ≡ hops + 1) where
  pub given-fits : bridges_given o ≤ length list → count ≤ length list
  given-fits l = omega (arith, ap bridges_given given, counted)

  pub given-bridges : ◌≡◌ {A = Outcome (Written CostAndHops)}
      (answered (record { values = record { cost = cost; hops = hops }; words = take count list })) (given_path o list)
  given-bridges =
      (λ i. answered (record { values = record { cost = cost; hops = hops }; words = take (counted i) list }))
      ∙ ap (λ (x : Outcome CostAndHops). given_path x list) (sym given)

-- The call was lent the list `old`, answered `o` and left the list `now`.
module _ (old now : List ℕ) (o : Outcome CostAndHops) where
  pub refusal-given : (number : ℕ) (kind : Option ℕ) (at : ℕ) → ◌≡◌ {A = Outcome CostAndHops × List ℕ} (o, now) (refused number kind at, old)
      → (bridges_given o ≤ length now) × (◌≡◌ {A = Outcome (Written CostAndHops)} (given_path o now) (refused number kind at))
  refusal-given number kind at e =
      let same : o ≡ refused number kind at = ap (λ (z : Outcome CostAndHops × List ℕ). z.0) e
      in (omega (arith, ap bridges_given same), ap (λ (x : Outcome CostAndHops). given_path x now) same)

  -- A path with a place for each of its bridges is given whole.
  pub path-given : (p : Written CostAndHops) → length p.words ≡ p.values.hops + 1
      → ◌≡◌ {A = Outcome CostAndHops × List ℕ} (o, now) (answered p.values, overwritten p.words old)
      → (bridges_given o ≤ length now) × (◌≡◌ {A = Outcome (Written CostAndHops)} (given_path o now) (answered p))
  path-given p counted e =
      let same : o ≡ answered p.values = ap (λ (z : Outcome CostAndHops × List ℕ). z.0) e
      in let left : now ≡ overwritten p.words old = ap (λ (z : Outcome CostAndHops × List ℕ). z.1) e
      in (
        omega (arith, ap bridges_given same, counted, ap (λ (t : List ℕ). length t) left, length-append p.words (drop (length p.words) old)),
        ap (λ (x : Outcome CostAndHops). given_path x now) same
            ∙ (λ i. answered (record { values = p.values; words = take (sym counted i) (left i) }))
            ∙ (λ i. answered (record { values = p.values; words = take-append_seam p.words (drop (length p.words) old) i })),
      )
