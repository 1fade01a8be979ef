-- The loops that write entries: what an individual entry adds, and the loop over ports around the loop over receivers.
-- Assumes nothing.
use Rattle.std.specs.Prelude.{ℕ, ◌+◌, ◌≤◌, ◌<◌, ◌≡◌, refl, Bool, true, false, ◌||◌, get_or, drop}
use Rattle.std.proofs.Common.{arith, ◌∙◌, subst, eq-eqb, ne_eqb}
use Rattle.std.proofs.Math.Path.{sym, ap}
use mathlib.Core.List.{List, []}
use Rattle.std.proofs.Math.Bool.{cond}
use Rattle.std.proofs.Math.Dec.{eqb}
use Rattle.std.proofs.Math.ListN.{length}
use Rattle.std.proofs.Math.Seq.{drop-length}
use Rattle.lists.specs.Lists.{any_passes}
use Rattle.lists.proofs.laws.MemberLaws.{drop-next}
use Rattle.lists.specs.Appending.{Appended, Room}
use Rattle.lists.proofs.laws.AppendingLaws.{appended_nothing, Appending, appending_starts, appending_room, appending_goes_on, appending_passes, appending_ends}
use Rattle.rule.specs.Records.{Bridge, address}
use Rattle.rule.specs.Entries.{entry_words}
use Rattle.entry_codec.specs.Codec.{entry_with}
use Rattle.table.specs.Numbered.{bridge_number}
use Rattle.entry_words.specs.Words.{individual_to, group_at, group_words}

-- What the entry for the bridge `d` adds: nothing where no port leads there.
module _ (ws row : List ℕ) (vid d port : ℕ) (e : port ≡ get_or row d 0) where
  pub no_individual : port ≡ 0 → (lent : List ℕ) (at : ℕ) → Appended lent at (individual_to ws row vid d) lent at
  unfolding individual_to
  no_individual z lent at = rw (eq-eqb (get_or row d 0) 0 (sym e ∙ z)) (appended_nothing lent at)

  module _ (n : port ≡ 0 → ⊥) (b : Bridge) (f : b ≡ bridge_number ws d) where
    one-individual : individual_to ws row vid d ≡ entry_words (entry_with 8 vid port (address b))
    unfolding individual_to
    one-individual =
        ap (λ (c : Bool). cond c [] (entry_words (entry_with 8 vid (get_or row d 0) (address (bridge_number ws d)))))
        (ne_eqb (get_or row d 0) 0 (λ z. n (e ∙ z)))
        ∙ ap (λ (q : ℕ). entry_words (entry_with 8 vid q (address (bridge_number ws d)))) (sym e)
        ∙ ap (λ (x : Bridge). entry_words (entry_with 8 vid port (address x))) (sym f)

    pub individual-room : (lent : List ℕ) (at : ℕ) → Room lent at (individual_to ws row vid d) → at + 3 ≤ length lent
    individual-room lent at r = omega (arith, ap (λ (t : List ℕ). length t) one-individual)

    pub individual-written : {lent written : List ℕ} {at end : ℕ} → Appended lent at (entry_words (entry_with 8 vid port (address b))) written end
        → Appended lent at (individual_to ws row vid d) written end
    individual-written A = rw one-individual A

-- The loop over ports.
pub record Listing (ports behind : List ℕ) (vid addr : ℕ) (lent : List ℕ) (at i : ℕ) (written : List ℕ) (end : ℕ) : Type 0 where
  pub so_far : Appending (group_at ports behind vid addr) (length ports) lent at i written end

pub listing-starts : (ports behind : List ℕ) (vid addr : ℕ) (lent : List ℕ) (at : ℕ) → Room lent at (group_words ports behind vid addr)
    → Listing ports behind vid addr lent at 0 lent at
unfolding group_words
listing-starts ports behind vid addr lent at r = record { so_far = appending_starts (group_at ports behind vid addr) (length ports) lent at r }

pub listing-ends : {ports behind : List ℕ} {vid addr : ℕ} {lent : List ℕ} {at i : ℕ} {written : List ℕ} {end : ℕ}
    → Listing ports behind vid addr lent at i written end → length ports ≤ i → Appended lent at (group_words ports behind vid addr) written end
unfolding group_words
listing-ends L l = appending_ends L.so_far l

-- The loop over receivers: no receiver before the place `j` is behind the port, and nothing is written yet.
pub record Seeking (behind : List ℕ) (port : ℕ) (words₀ : List ℕ) (end₀ j : ℕ) (words : List ℕ) (end : ℕ) : Type 0 where
  pub within : j ≤ length behind
  pub rest : any_passes (λ q. eqb q port) (drop j behind) ≡ any_passes (λ q. eqb q port) behind
  pub same_words : words ≡ words₀
  pub same_end : end ≡ end₀

pub seeking_starts : (behind : List ℕ) (port : ℕ) (words : List ℕ) (end : ℕ) → Seeking behind port words end 0 words end
seeking_starts behind port words end = record { within = omega arith; rest = refl; same_words = refl; same_end = refl }

module _ {behind : List ℕ} {port : ℕ} {words₀ : List ℕ} {end₀ j : ℕ} {words : List ℕ} {end : ℕ} (S : Seeking behind port words₀ end₀ j words end) where
  next-behind : j < length behind → any_passes (λ q. eqb q port) (drop j behind) ≡ (eqb (get_or behind j 0) port || any_passes (λ q. eqb q port) (drop (j + 1) behind))
  unfolding any_passes
  next-behind l = ap (any_passes (λ q. eqb q port)) (drop-next behind j (j + 1) 0 (omega arith) l)

  pub seeking_goes_on : j < length behind → (get_or behind j 0 ≡ port → ⊥) → Seeking behind port words₀ end₀ (j + 1) words end
  seeking_goes_on l d = record {
    within = omega arith;
    rest = sym (next-behind l ∙ ap (λ (b : Bool). b || any_passes (λ q. eqb q port) (drop (j + 1) behind)) (ne_eqb (get_or behind j 0) port d)) ∙ S.rest;
    same_words = S.same_words;
    same_end = S.same_end;
  }

  found : j < length behind → get_or behind j 0 ≡ port → any_passes (λ q. eqb q port) behind ≡ true
  found l e = sym S.rest ∙ next-behind l ∙ ap (λ (b : Bool). b || any_passes (λ q. eqb q port) (drop (j + 1) behind)) (eq-eqb (get_or behind j 0) port e)

  none-there : length behind ≤ j → any_passes (λ q. eqb q port) behind ≡ false
  unfolding any_passes
  none-there l =
      sym S.rest ∙ ap (λ (k : ℕ). any_passes (λ q. eqb q port) (drop k behind)) all ∙ ap (any_passes (λ q. eqb q port)) (drop-length behind)
    where
      all : j ≡ length behind
      all = omega (arith, S.within)

  module _ {ports : List ℕ} {vid addr : ℕ} {lent : List ℕ} {at i : ℕ} (L : Listing ports behind vid addr lent at i words₀ end₀)
      (l : i < length ports) (e : port ≡ get_or ports i 0) where
    by_test : (b : Bool) → any_passes (λ q. eqb q port) behind ≡ b → group_at ports behind vid addr i ≡ cond b (entry_words (entry_with 9 vid port addr)) []
    unfolding group_at
    by_test b f = rw (← e) (ap (λ (b : Bool). cond b (entry_words (entry_with 9 vid port addr)) []) f)

    -- A receiver behind the port is found: the entry has room, and the loop over ports goes on with it.
    pub found-room : j < length behind → get_or behind j 0 ≡ port → end + 3 ≤ length words
    found-room k f = omega (
      arith,
      appending_room L.so_far l,
      ap (λ (t : List ℕ). length t) (by_test true (found k f)),
      ap (λ (t : List ℕ). length t) S.same_words,
      S.same_end,
    )

    pub found-listed : j < length behind → get_or behind j 0 ≡ port → {wide : ℕ} → wide ≡ port → {words' : List ℕ} {end' : ℕ}
        → Appended words end (entry_words (entry_with 9 vid wide addr)) words' end' → Listing ports behind vid addr lent at (i + 1) words' end'
    found-listed k f {wide} q {words'} {end'} A = record {
      so_far = appending_goes_on L.so_far l
          (subst (λ (t : List ℕ). Appended words₀ end₀ t words' end') (sym (by_test true (found k f))) (rw (S.same_words, S.same_end, q) at A));
    }

    -- None is found.
    pub none-listed : length behind ≤ j → Listing ports behind vid addr lent at (i + 1) words end
    none-listed k = record { so_far = rw (S.same_words, S.same_end) (appending_passes L.so_far l (by_test false (none-there k))) }
