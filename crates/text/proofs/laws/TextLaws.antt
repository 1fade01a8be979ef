-- Laws of texts written one after the other, and how long they are. Assumes nothing.
use Rattle.std.specs.Prelude.{ℕ, suc, ◌+◌, ◌*◌, ◌≤◌, ◌<◌, ◌≡◌, refl, length, get_or, take, set}
use Rattle.std.proofs.Common.{arith, sym, ap, ◌∙◌, length-set, take-suc, take_all}
use mathlib.Core.List.{List, [], ◌∷◌, ◌++◌, flat_map, append-nil, append_assoc}
use Rattle.lists.specs.Lists.{spliced}
use Rattle.lists.proofs.laws.Splices.{spliced-nothing}
use Rattle.lists.proofs.laws.AppendingLaws.{appended-length, appended_nothing, appended-both, one_word}
use Rattle.text.specs.Text.{field_text, fields, WrittenAt}
use Rattle.text.proofs.laws.DigitLaws.{length-decimal_of}

-- Texts one after the other, where room is given by the place after the text.
module _ {at : ℕ} {before after text : List ℕ} {next : ℕ} (w : WrittenAt at before after text next) where
  -- The list is as long as before where the text fits.
  pub written-length : next ≤ length before → length after ≡ length before
  written-length h = appended-length w (omega (arith, w.end_is))

  -- A text written after it.
  pub written_on :
      {later more : List ℕ} {end : ℕ} →
      WrittenAt next after later more end →
      next ≤ length before →
      WrittenAt at before later (text ++ more) end
  written_on v h = appended-both w v (omega (arith, w.end_is))

  -- One byte after it.
  pub written_byte : (b : ℕ) → next < length before → WrittenAt at before (set after next b) (text ++ (b ∷ [])) (next + 1)
  written_byte b h = written_on (one_word after next b (omega (arith, written-length (omega arith)))) (omega arith)

  -- The same text under another name.
  pub written_as : (other : List ℕ) → text ≡ other → WrittenAt at before after other next
  written_as other e =
      record {
        end_is = w.end_is ∙ ap (λ (t : List ℕ). at + length t) e;
        words_are = w.words_are ∙ ap (spliced before at) e;
      }

-- Bytes copied one after the other.
pub record Copying (bytes before : List ℕ) (at : ℕ) (out : List ℕ) (i : ℕ) : Type 0 where
  pub within : i ≤ length bytes
  pub same_length : length out ≡ length before
  pub written : WrittenAt at before out (take i bytes) (at + i)

pub copying_starts : (bytes before : List ℕ) (at : ℕ) → Copying bytes before at before 0
copying_starts bytes before at =
    record {
      within = omega arith;
      same_length = refl;
      written = record { end_is = refl; words_are = sym (spliced-nothing before at) };
    }

module _ {bytes before : List ℕ} {at : ℕ} {out : List ℕ} {i : ℕ} (C : Copying bytes before at out i) where
  pub copying_goes_on : at + length bytes ≤ length before → i < length bytes → Copying bytes before at (set out (at + i) (get_or bytes i 0)) (i + 1)
  copying_goes_on room h =
      record {
        within = omega arith;
        same_length = length-set out (at + i) (get_or bytes i 0) ∙ C.same_length;
        written = record { end_is = (let z : at + (i + 1) ≡ at + i + 1 = omega arith in z) ∙ next.end_is ∙ ap (λ (t : List ℕ). at + length t) one_more; words_are = next.words_are ∙ ap (spliced before at) one_more };
      }
    where
      next : WrittenAt at before (set out (at + i) (get_or bytes i 0)) (take i bytes ++ (get_or bytes i 0 ∷ [])) (at + i + 1)
      next = written_byte C.written (get_or bytes i 0) (omega arith)

      one_more : take i bytes ++ (get_or bytes i 0 ∷ []) ≡ take (i + 1) bytes
      one_more = sym (take-suc bytes i 0 h) ∙ ap (λ (k : ℕ). take k bytes) (let z : suc i ≡ i + 1 = omega arith in z)

  pub copying_ends : (next : ℕ) → length bytes ≤ i → next ≡ at + length bytes → WrittenAt at before out bytes next
  copying_ends next h e =
      record { end_is = e; words_are = C.written.words_are ∙ ap (spliced before at) (take_all i bytes h) }

-- Fields

fields-more : (ns : List ℕ) (n : ℕ) → fields (ns ++ (n ∷ [])) ≡ fields ns ++ field_text n
unfolding flat_map
fields-more [] n = append-nil (field_text n)
fields-more (m ∷ ns) n = ap (λ (t : List ℕ). field_text m ++ t) (fields-more ns n) ∙ sym (append_assoc (field_text m) (fields ns) (field_text n))

-- The fields of the numbers passed are written.
pub record Fielding (numbers before : List ℕ) (at : ℕ) (out : List ℕ) (next i : ℕ) : Type 0 where
  pub within : i ≤ length numbers
  pub same_length : length out ≡ length before
  pub room : next ≤ at + 11 * i
  pub written : WrittenAt at before out (fields (take i numbers)) next

pub fielding_starts : (numbers before : List ℕ) (at : ℕ) → Fielding numbers before at before at 0
unfolding flat_map
fielding_starts numbers before at =
    record { within = omega arith; same_length = refl; room = omega arith; written = appended_nothing before at }

module _ {numbers before : List ℕ} {at : ℕ} {out : List ℕ} {next i : ℕ} (F : Fielding numbers before at out next i) where
  pub fielding_goes_on :
      at + 11 * length numbers ≤ length before →
      i < length numbers →
      (after : List ℕ) (end : ℕ) →
      WrittenAt next out after (field_text (get_or numbers i 0)) end →
      Fielding numbers before at after end (i + 1)
  fielding_goes_on room h after end w =
      record {
        within = omega arith;
        same_length = written-length w (omega (arith, within_room, F.same_length)) ∙ F.same_length;
        room = within_room;
        written = written_as (written_on F.written w (omega arith)) (fields (take (i + 1) numbers)) one_more;
      }
    where
      within_room : end ≤ at + 11 * (i + 1)
      within_room = omega (arith, F.room, w.end_is, length-decimal_of (get_or numbers i 0))

      one_more : fields (take i numbers) ++ field_text (get_or numbers i 0) ≡ fields (take (i + 1) numbers)
      one_more =
          sym (fields-more (take i numbers) (get_or numbers i 0))
          ∙ ap fields (sym (take-suc numbers i 0 h) ∙ ap (λ (k : ℕ). take k numbers) (let z : suc i ≡ i + 1 = omega arith in z))

  pub fielding_room : length numbers ≤ i → next ≤ at + 11 * length numbers
  fielding_room h = omega (arith, F.room, F.within)

  pub fielding_ends : length numbers ≤ i → WrittenAt at before out (fields numbers) next
  fielding_ends h = written_as F.written (fields numbers) (ap fields (take_all i numbers h))
