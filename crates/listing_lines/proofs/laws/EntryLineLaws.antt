-- Laws of entry lines written one after the other, by the words of the entries. Assumes nothing.
use Rattle.std.specs.Prelude.{ℕ, ◌+◌, ◌*◌, ◌-◌, ◌/◌, ◌≤◌, ◌<◌, ◌≡◌, refl, length, drop}
use Rattle.std.proofs.Common.{arith, subst, ◌∙◌}
use Rattle.std.proofs.Math.Path.{sym, ap}
use mathlib.Core.List.{List, [], ◌∷◌, ◌++◌, flat_map, append-nil, append_assoc}
use Rattle.std.proofs.Math.ListN.{length-drop}
use Rattle.lists.proofs.laws.AppendingLaws.{appended_nothing}
use Rattle.rule.specs.Entries.{Entry}
use Rattle.rule.specs.Lookup.{entries_in}
use Rattle.entry_codec.proofs.laws.EntryAtLaws.{entry_at, three-words}
use Rattle.text.specs.Text.{space, newline, address, fields, WrittenAt}
use Rattle.text.proofs.laws.DigitLaws.{length_digits}
use Rattle.text.proofs.laws.TextLaws.{written-length, written_on, written_as}
use Rattle.listing_lines.specs.Listing.{entry_word, entry_line}

-- The line of an entry by the numbers read of its words.
pub line_of_numbers : (b : ℕ) (e : Entry) {vid port addr : ℕ} → vid ≡ e.vid → port ≡ e.port → addr ≡ e.address
    → entry_line b (record { kind = e.kind; vid = vid; port = port; address = addr }) ≡ entry_line b e
line_of_numbers b e v q a = λ i. entry_line b (record { kind = e.kind; vid = v i; port = q i; address = a i })

-- The texts of an entry line one after the other: the word, three numbers, a space and the address, then the newline.
module _ (bridge vid port addr : ℕ) {at : ℕ} {out out₁ out₂ out₃ out₄ : List ℕ} {a b d e : ℕ} (W : WrittenAt at out out₁ entry_word a)
    (N : WrittenAt a out₁ out₂ (fields (bridge ∷ vid ∷ port ∷ [])) b × (b ≤ a + 33)) (S : WrittenAt b out₂ out₃ (space ∷ []) d)
    (A : WrittenAt d out₃ out₄ (address addr) e) where
  pub before-newline : e ≤ at + 51
  before-newline = omega (arith, W.end_is, N, S.end_is, A.end_is, length_digits 16 12 addr)

  pub entry-line-written : {out₅ : List ℕ} {end : ℕ} → WrittenAt e out₄ out₅ (newline ∷ []) end → at + 52 ≤ length out
      → (entry : Entry) → vid ≡ entry.vid → port ≡ entry.port → addr ≡ entry.address
      → WrittenAt at out out₅ (entry_line bridge entry) end × (end ≤ at + 52)
  entry-line-written L room entry v p f =
      let (numbers, numbers-end) = N
      in let word-length = written-length W (omega (arith, W.end_is))
      in let numbers-length = written-length numbers (omega (arith, W.end_is, word-length))
      in let space-length = written-length S (omega (arith, W.end_is, S.end_is, word-length, numbers-length))
      in (
        written_as
            (written_on W
            (written_on numbers
            (written_on S (written_on A L (omega (arith, before-newline, word-length, numbers-length, space-length)))
            (omega (arith, W.end_is, S.end_is, word-length, numbers-length)))
            (omega (arith, W.end_is, word-length)))
            (omega (arith, W.end_is)))
            _ (line_of_numbers bridge entry v p f),
        omega (arith, before-newline, L.end_is),
      )

-- The lines of the entries before the word `i` are written.
pub record EntryListing (b : ℕ) (ws before : List ℕ) (at : ℕ) (out : List ℕ) (next i : ℕ) : Type 0 where
  pub within : i ≤ length ws
  pub same_length : length out ≡ length before
  pub room : next + 52 * ((length ws - i) / 3) ≤ at + 52 * (length ws / 3)
  pub so_far : List ℕ
  pub split : so_far ++ flat_map (entry_line b) (entries_in (drop i ws)) ≡ flat_map (entry_line b) (entries_in ws)
  pub written : WrittenAt at before out so_far next

pub entry-listing-starts : (b : ℕ) (ws before : List ℕ) (at : ℕ) → EntryListing b ws before at before at 0
entry-listing-starts b ws before at = record {
  within = omega arith;
  same_length = refl;
  room = omega arith;
  so_far = [];
  split = refl;
  written = appended_nothing before at;
}

no_entry-left : (ws : List ℕ) → length ws < 3 → entries_in ws ≡ []
unfolding entries_in
no_entry-left [] h = refl
no_entry-left (w ∷ []) h = refl
no_entry-left (w ∷ upper ∷ []) h = refl
no_entry-left (w ∷ upper ∷ lower ∷ rest) h = absurd (omega arith)

next-entry : (b : ℕ) (ws : List ℕ) (i : ℕ) → 3 ≤ length ws - i
    → flat_map (entry_line b) (entries_in (drop i ws)) ≡ entry_line b (entry_at ws i) ++ flat_map (entry_line b) (entries_in (drop (i + 3) ws))
unfolding entries_in flat_map
next-entry b ws i h = ap (λ (t : List ℕ). flat_map (entry_line b) (entries_in t)) (three-words ws i h)

module _ {b : ℕ} {ws before : List ℕ} {at : ℕ} {out : List ℕ} {next i : ℕ} (L : EntryListing b ws before at out next i) where
  -- A line has room.
  pub entry-listing-room : at + 52 * (length ws / 3) ≤ length before → 3 ≤ length ws - i → next + 52 ≤ length out
  entry-listing-room r h = omega (arith, L.room, L.same_length)

  pub entry-listing_goes_on :
      at + 52 * (length ws / 3) ≤ length before →
      3 ≤ length ws - i →
      (after : List ℕ) (end : ℕ) →
      WrittenAt next out after (entry_line b (entry_at ws i)) end →
      end ≤ next + 52 →
      EntryListing b ws before at after end (i + 3)
  entry-listing_goes_on r h after end w m = record {
    within = omega arith;
    same_length = written-length w (omega (arith, entry-listing-room r h)) ∙ L.same_length;
    room = omega (arith, L.room);
    so_far = L.so_far ++ entry_line b (entry_at ws i);
    split =
        append_assoc L.so_far (entry_line b (entry_at ws i)) (flat_map (entry_line b) (entries_in (drop (i + 3) ws)))
        ∙ ap (λ (t : List ℕ). L.so_far ++ t) (sym (next-entry b ws i h))
        ∙ L.split;
    written = written_on L.written w (omega (arith, L.room));
  }

  pub entry-listing-ends : length ws - i < 3 → WrittenAt at before out (flat_map (entry_line b) (entries_in ws)) next × (next ≤ at + 52 * (length ws / 3))
  unfolding flat_map
  entry-listing-ends h = (written_as L.written (flat_map (entry_line b) (entries_in ws)) all, omega (arith, L.room))
    where
      all : L.so_far ≡ flat_map (entry_line b) (entries_in ws)
      all =
          sym (append-nil L.so_far)
          ∙ ap (λ (es : List Entry). L.so_far ++ flat_map (entry_line b) es) (sym (no_entry-left (drop i ws) (omega (arith, length-drop i ws))))
          ∙ L.split

module _ {b : ℕ} {ws before : List ℕ} {at : ℕ} {out : List ℕ} {next i j : ℕ} where
  pub entry-listing_moved : i ≡ j → EntryListing b ws before at out next i → EntryListing b ws before at out next j
  entry-listing_moved m L = subst (λ (k : ℕ). EntryListing b ws before at out next k) m L
