-- Where the words of the half-link named stand among a table's records: behind those of the bridges and of the half-links before it.
-- Assumes nothing.
use Rattle.std.specs.Prelude.{ℕ, suc, ◌+◌, ◌*◌, ◌≤◌, ◌≡◌, refl, ◌⊎◌, Bool, ◌||◌, eqb}
use native.Mathlib.Omega.{arith}
use Rattle.std.proofs.Common.{sym, ◌∙◌, inl, inr, eqb→eq, length-append}
use Rattle.std.proofs.Math.Path.{ap, subst}
use mathlib.Core.List.{List, [], ◌∷◌, ◌++◌, append_assoc, append-nil}
use Rattle.std.proofs.Math.Bool.{true, false, cond}
use Rattle.std.proofs.Math.Dec.{T}
use Rattle.std.proofs.Math.ListN.{length}
use Rattle.lists.specs.Lists.{cons_if, any_passes, first_passing}
use Rattle.lists.specs.Members.{In}
use Rattle.lists.proofs.laws.NumberLaws.{is_false}
use Rattle.rule.specs.Records.{HalfLink, Layout, field_at, bridge_of, half_link_of, layouts}
use Rattle.rule.specs.Plan.{Plan, with_record}
use Rattle.rule.specs.Check.{Reading, faults}
use Rattle.rule.proofs.laws.Accepted.{no_fault, not-ltb, read_one}
use Rattle.edits.specs.declared.change.HalfLinkName.{HalfLinkName}
use Rattle.edits.specs.Edits.{is_named}
use Rattle.edits.proofs.laws.RecordWords.{Readable, Reads, joined_words}

-- Among records given by their words: how many bridges, and the half-links.
abbrev pub bridges_of : List (List ℕ) → ℕ
bridges_of [] = 0
bridges_of (r ∷ rs) = cond (eqb (field_at 0 31 28 r) 1) 1 0 + bridges_of rs

abbrev pub half_links_of : List (List ℕ) → List HalfLink
half_links_of [] = []
half_links_of (r ∷ rs) = cons_if (eqb (field_at 0 31 28 r) 2) (half_link_of r) (half_links_of rs)

-- What a record adds to the plan's bridges and half-links, whatever its row.
adds : (l : Layout) → In l layouts → (p : Plan) (r : List ℕ)
    → ((with_record p (l.decoded r)).half_links ≡ p.half_links ++ cons_if (eqb l.kind 2) (half_link_of r) [])
    × (length (with_record p (l.decoded r)).bridges ≡ length p.bridges + cond (eqb l.kind 1) 1 0)
adds l (inl e) p r = rw e (sym (append-nil p.half_links), length-append p.bridges (bridge_of r ∷ []))
adds l (inr (inl e)) p r = rw e (refl, omega arith)
adds l (inr (inr (inl e))) p r = rw e (sym (append-nil p.half_links), omega arith)
adds l (inr (inr (inr (inl e)))) p r = rw e (sym (append-nil p.half_links), omega arith)
adds l (inr (inr (inr (inr (inl e))))) p r = rw e (sym (append-nil p.half_links), omega arith)
adds l (inr (inr (inr (inr (inr (inl e)))))) p r = rw e (sym (append-nil p.half_links), omega arith)
adds l (inr (inr (inr (inr (inr (inr k)))))) p r = absurd k

cons_if_append : {A : Type 0} (b : Bool) (x : A) (xs : List A) → cons_if b x [] ++ xs ≡ cons_if b x xs
cons_if_append true x xs = refl
cons_if_append false x xs = refl

pub half_links_read : (s : Reading) (rs : List (List ℕ)) (e : Reading) → Reads s rs e → e.plan.half_links ≡ s.plan.half_links ++ half_links_of rs
half_links_read s [] e f = ap (λ (s : Reading). s.plan.half_links) (sym f) ∙ sym (append-nil s.plan.half_links)
half_links_read s (r ∷ rs) e (l, R, f) =
    half_links_read (read_one s l r) rs e f
    ∙ ap (λ (hs : List HalfLink). hs ++ half_links_of rs) (adds l R.listed s.plan r).0
    ∙ append_assoc s.plan.half_links (cons_if (eqb l.kind 2) (half_link_of r) []) (half_links_of rs)
    ∙ ap (λ (hs : List HalfLink). s.plan.half_links ++ hs) (cons_if_append (eqb l.kind 2) (half_link_of r) (half_links_of rs))
    ∙ ap (λ (n : ℕ). s.plan.half_links ++ cons_if (eqb n 2) (half_link_of r) (half_links_of rs)) (sym R.kind)

pub bridges-read : (s : Reading) (rs : List (List ℕ)) (e : Reading) → Reads s rs e → length e.plan.bridges ≡ length s.plan.bridges + bridges_of rs
bridges-read s [] e f = omega (arith, ap (λ (s : Reading). length s.plan.bridges) f)
bridges-read s (r ∷ rs) e (l, R, f) =
    omega (arith, bridges-read (read_one s l r) rs e f, (adds l R.listed s.plan r).1, ap {B = ℕ} (λ (n : ℕ). cond (eqb n 1) 1 0) R.kind)

-- Kinds never fall.
kind-rises : (s : Reading) (l : Layout) (r : List ℕ) → Readable s l r → s.last ≤ l.kind
kind-rises s l r R = not-ltb l.kind s.last (no_fault (faults s l r) R.faultless).0

other-kind : (r : List ℕ) (k n : ℕ) → field_at 0 31 28 r ≡ k → (k ≡ n → ⊥) → eqb (field_at 0 31 28 r) n ≡ false
other-kind r k n e f = is_false (eqb (field_at 0 31 28 r) n) (λ t. f (sym e ∙ eqb→eq (field_at 0 31 28 r) n t))

no_bridges-left : (s : Reading) (rs : List (List ℕ)) (e : Reading) → Reads s rs e → 2 ≤ s.last → bridges_of rs ≡ 0
no_bridges-left s [] e f h = refl
no_bridges-left s (r ∷ rs) e (l, R, f) h =
    omega (arith, no_bridges-left (read_one s l r) rs e f (omega (arith, h, kind-rises s l r R)), ap {B = ℕ} (λ (b : Bool). cond b 1 0) none_here)
  where
    none_here : eqb (field_at 0 31 28 r) 1 ≡ false
    none_here = other-kind r l.kind 1 R.kind (λ e. omega (arith, e, h, kind-rises s l r R))

no_half_links-left : (s : Reading) (rs : List (List ℕ)) (e : Reading) → Reads s rs e → 3 ≤ s.last → half_links_of rs ≡ []
no_half_links-left s [] e f h = refl
no_half_links-left s (r ∷ rs) e (l, R, f) h =
    ap (λ (b : Bool). cons_if b (half_link_of r) (half_links_of rs)) none_here ∙ no_half_links-left (read_one s l r) rs e f (omega (arith, h, kind-rises s l r R))
  where
    none_here : eqb (field_at 0 31 28 r) 2 ≡ false
    none_here = other-kind r l.kind 2 R.kind (λ e. omega (arith, e, h, kind-rises s l r R))

-- The records before the half-link named, its own words, and those behind it.
pub record Located (n : HalfLinkName) (rs : List (List ℕ)) : Type 0 where
  pub front : List (List ℕ)
  pub found : List ℕ
  pub back : List (List ℕ)
  pub parts : rs ≡ front ++ (found ∷ back)
  pub kind : field_at 0 31 28 found ≡ 2
  pub whole : length found ≡ 3
  pub named : T (is_named n (half_link_of found))
  pub place : length (joined_words front) ≡ 3 * bridges_of rs + 3 * first_passing (is_named n) (half_links_of rs)

module _ (n : HalfLinkName) where
  -- Behind a record of three words that is not the one named.
  behind : (r : List ℕ) (rs : List (List ℕ)) → length r ≡ 3 → (L : Located n rs)
      → 3 + (3 * bridges_of rs + 3 * first_passing (is_named n) (half_links_of rs)) ≡ 3 * bridges_of (r ∷ rs) + 3 * first_passing (is_named n) (half_links_of (r ∷ rs))
      → Located n (r ∷ rs)
  behind r rs w L e = record {
    front = r ∷ L.front;
    found = L.found;
    back = L.back;
    parts = ap (λ (ks : List (List ℕ)). r ∷ ks) L.parts;
    kind = L.kind;
    whole = L.whole;
    named = L.named;
    place = omega (arith, length-append r (joined_words L.front), w, L.place, e);
  }

  -- What a record of the kind 1, or of the kind 2, adds; and one of a higher kind.
  adds-bridge : (r : List ℕ) (rs : List (List ℕ)) → field_at 0 31 28 r ≡ 1 → (bridges_of (r ∷ rs) ≡ 1 + bridges_of rs) × (half_links_of (r ∷ rs) ≡ half_links_of rs)
  adds-bridge r rs k = (
    ap (λ (m : ℕ). cond (eqb m 1) 1 0 + bridges_of rs) k,
    ap (λ (m : ℕ). cons_if (eqb m 2) (half_link_of r) (half_links_of rs)) k,
  )

  adds_half_link : (r : List ℕ) (rs : List (List ℕ)) → field_at 0 31 28 r ≡ 2
      → (bridges_of (r ∷ rs) ≡ 0 + bridges_of rs) × (half_links_of (r ∷ rs) ≡ half_link_of r ∷ half_links_of rs)
  adds_half_link r rs k = (
    ap (λ (m : ℕ). cond (eqb m 1) 1 0 + bridges_of rs) k,
    ap (λ (m : ℕ). cons_if (eqb m 2) (half_link_of r) (half_links_of rs)) k,
  )

  -- Bridges and half-links have three words.
  three-words : (l : Layout) → In l layouts → ((l.kind ≡ 1) × (l.words ≡ 3)) ⊎ ((l.kind ≡ 2) × (l.words ≡ 3)) ⊎ (3 ≤ l.kind)
  three-words l (inl e) = rw e (inl (refl, refl))
  three-words l (inr (inl e)) = rw e (inr (inl (refl, refl)))
  three-words l (inr (inr (inl e))) = rw e (inr (inr (omega arith)))
  three-words l (inr (inr (inr (inl e)))) = rw e (inr (inr (omega arith)))
  three-words l (inr (inr (inr (inr (inl e))))) = rw e (inr (inr (omega arith)))
  three-words l (inr (inr (inr (inr (inr (inl e)))))) = rw e (inr (inr (omega arith)))
  three-words l (inr (inr (inr (inr (inr (inr k)))))) = absurd k

  pub locate : (s : Reading) (rs : List (List ℕ)) (e : Reading) → Reads s rs e → T (any_passes (is_named n) (half_links_of rs)) → Located n rs
  unfolding any_passes first_passing
  locate s [] e f t = absurd t
  locate s (r ∷ rs) e (l, R, f) t = go (three-words l R.listed) (locate (read_one s l r) rs e f)
    where
      half_link_lem : (b : Bool) → is_named n (half_link_of r) ≡ b → l.kind ≡ 2 → length r ≡ 3 → (T (any_passes (is_named n) (half_links_of rs)) → Located n rs)
          → T (b || any_passes (is_named n) (half_links_of rs)) → Located n (r ∷ rs)
      half_link_lem true b k w on t = record {
        front = [];
        found = r;
        back = rs;
        parts = refl;
        kind = R.kind ∙ k;
        whole = w;
        named = subst T (sym b) tt;
        place = omega (
          arith,
          no_bridges-left (read_one s l r) rs e f (omega (arith, k)),
          (adds_half_link r rs (R.kind ∙ k)).0,
          ap (first_passing (is_named n)) (adds_half_link r rs (R.kind ∙ k)).1
              ∙ ap (λ (b : Bool). cond b 0 (suc (first_passing (is_named n) (half_links_of rs)))) b,
        );
      }
      half_link_lem false b k w on t = behind r rs w (on t) (omega (
        arith,
        (adds_half_link r rs (R.kind ∙ k)).0,
        ap (first_passing (is_named n)) (adds_half_link r rs (R.kind ∙ k)).1
            ∙ ap (λ (b : Bool). cond b 0 (suc (first_passing (is_named n) (half_links_of rs)))) b,
      ))

      go : ((l.kind ≡ 1) × (l.words ≡ 3)) ⊎ ((l.kind ≡ 2) × (l.words ≡ 3)) ⊎ (3 ≤ l.kind)
          → (T (any_passes (is_named n) (half_links_of rs)) → Located n rs) → Located n (r ∷ rs)
      go (inl (k, w)) on =
          let (b, h) = adds-bridge r rs (R.kind ∙ k)
          in behind r rs (R.whole ∙ w) (on (subst (λ (hs : List HalfLink). T (any_passes (is_named n) hs)) h t))
          (omega (arith, b, ap (first_passing (is_named n)) h))
      go (inr (inl (k, w))) on = half_link_lem (is_named n (half_link_of r)) refl k (R.whole ∙ w) on
          (subst (λ (hs : List HalfLink). T (any_passes (is_named n) hs)) (adds_half_link r rs (R.kind ∙ k)).1 t)
      go (inr (inr h)) on = absurd (subst (λ (hs : List HalfLink). T (any_passes (is_named n) hs)) none_here t)
        where
          none_here : half_links_of (r ∷ rs) ≡ []
          none_here = ap (λ (b : Bool). cons_if b (half_link_of r) (half_links_of rs)) (other-kind r l.kind 2 R.kind (λ e. omega (arith, e, h)))
              ∙ no_half_links-left (read_one s l r) rs e f h
