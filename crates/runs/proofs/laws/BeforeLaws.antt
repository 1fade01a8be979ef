-- The records of one kind more are read. Assumes nothing.
use Rattle.std.specs.Prelude.{ℕ, ◌+◌, ◌≤◌, ◌<◌, ◌≡◌, refl, List, Result, ◌⊎◌, false}
use Rattle.std.proofs.Common.{arith, sym, ap, ◌∙◌, inl, inr}
use Rattle.lists.proofs.laws.NumberLaws.{same_or_not}
use Rattle.rule.specs.declared.refusal.Refusal.{Refusal}
use Rattle.rule.specs.Records.{half_link_of}
use Rattle.table.specs.declared.shape.Shape.{Shape}
use Rattle.table.specs.Positions.{half_links_from, vids_from, members_from, traffic_from, words_read}
use Rattle.key_index.specs.Index.{Indexed}
use Rattle.earlier.specs.HalfLinks.{number_key}
use Rattle.earlier.proofs.laws.KeyLaws.{keyed-none}
use Rattle.runs.specs.Runs.{is_kind, Reached, SameOthers, Run, Numbers, NumbersKept, Before, KindRead}

-- Before the half-links are read the index has no key.
pub no_key_yet : {ws links : List ℕ} {kind : ℕ} {s : Shape} → Before ws links kind s → kind ≤ 2 → Indexed links 0
no_key_yet B h = rw (B.no_half_links h) at B.numbers.indexed

module _ {ws links : List ℕ} {kind : ℕ} {s : Shape} (B : Before ws links kind s) (l : 1 ≤ kind) (m : kind ≤ 5) where
  -- Where a kind ends: the kind just read ends where the reading stands, and those before it where they ended.
  ends_there :
      (k at at' here : ℕ) →
      (k < kind → is_kind ws k at ≡ false) →
      (k < kind → at' ≡ at) →
      (k ≡ kind → at' ≡ here) →
      is_kind ws kind here ≡ false →
      k < kind + 1 →
      is_kind ws k at' ≡ false
  ends_there k at at' here old same new e h = go (same_or_not k kind)
    where
      go : (k ≡ kind) ⊎ (k ≡ kind → ⊥) → is_kind ws k at' ≡ false
      go (inl f) = ap (is_kind ws k) (new f) ∙ ap (λ (j : ℕ). is_kind ws j here) f ∙ e
      go (inr d) = ap (is_kind ws k) (same (omega arith)) ∙ old (omega arith)

  module _ {t : Shape} (links' : List ℕ) (R : Reached ws t) (e : is_kind ws kind (words_read t) ≡ false) (o : SameOthers kind s t) (n : Numbers ws links' t) where
    -- Of a kind before this one there are as many as before, and of one after it there are none.
    same-bridges : 1 < kind → t.bridges ≡ s.bridges
    same-bridges h = o.bridges (λ z. absurd (omega arith))

    same_half_links : 2 < kind → t.half_links ≡ s.half_links
    same_half_links h = o.half_links (λ z. absurd (omega arith))

    same-vids : 3 < kind → t.vids ≡ s.vids
    same-vids h = o.vids (λ z. absurd (omega arith))

    same-members : 4 < kind → t.members ≡ s.members
    same-members h = o.members (λ z. absurd (omega arith))

    half_links-none : kind < 2 → t.half_links ≡ 0
    half_links-none h = o.half_links (λ z. absurd (omega arith)) ∙ B.no_half_links (omega arith)

    vids-none : kind < 3 → t.vids ≡ 0
    vids-none h = o.vids (λ z. absurd (omega arith)) ∙ B.no_vids (omega arith)

    members-none : kind < 4 → t.members ≡ 0
    members-none h = o.members (λ z. absurd (omega arith)) ∙ B.no_members (omega arith)

    traffic-none : kind < 5 → t.traffic ≡ 0
    traffic-none h = o.traffic (λ z. absurd (omega arith)) ∙ B.no_traffic (omega arith)

    one-kind-more : Before ws links' (kind + 1) t
    one-kind-more =
        record {
          reached = R;
          numbers = n;
          no_bridges = λ h. absurd (omega arith);
          no_half_links = λ h. half_links-none (omega arith);
          no_vids = λ h. vids-none (omega arith);
          no_members = λ h. members-none (omega arith);
          no_traffic = λ h. traffic-none (omega arith);
          bridges_end = λ h.
              ends_there 1 (half_links_from s) (half_links_from t) (words_read t) B.bridges_end (λ k. omega (arith, same-bridges k))
              (λ k. omega (arith, half_links-none (omega arith), vids-none (omega arith), members-none (omega arith), traffic-none (omega arith)))
              e h;
          half_links_end = λ h.
              ends_there 2 (vids_from s) (vids_from t) (words_read t) B.half_links_end
              (λ k. omega (arith, same-bridges (omega arith), same_half_links k))
              (λ k. omega (arith, vids-none (omega arith), members-none (omega arith), traffic-none (omega arith)))
              e h;
          vids_end = λ h.
              ends_there 3 (members_from s) (members_from t) (words_read t) B.vids_end
              (λ k. omega (arith, same-bridges (omega arith), same_half_links (omega arith), same-vids k))
              (λ k. omega (arith, members-none (omega arith), traffic-none (omega arith)))
              e h;
          members_end = λ h.
              ends_there 4 (traffic_from s) (traffic_from t) (words_read t) B.members_end
              (λ k. omega (arith, same-bridges (omega arith), same_half_links (omega arith), same-vids (omega arith), same-members k))
              (λ k. omega (arith, traffic-none (omega arith)))
              e h;
          traffic_end = λ h.
              ends_there 5 (words_read s) (words_read t) (words_read t) B.traffic_end (λ k. absurd (omega arith)) (λ k. refl) e h;
        }

  -- Reading another kind than half-links leaves the index of the link numbers what it is.
  numbers_kept : {t : Shape} → (kind ≡ 2 → ⊥) → SameOthers kind s t → Numbers ws links t
  numbers_kept {t} d o = go (same_or_not kind 1)
    where
      go : (kind ≡ 1) ⊎ (kind ≡ 1 → ⊥) → Numbers ws links t
      go (inl f) =
          keyed-none half_link_of 3 number_key links ws (half_links_from t) t.half_links
          (rw (o.half_links d) B.numbers.indexed) (o.half_links d ∙ B.no_half_links (omega arith))
      go (inr g) = rw (o.half_links d, o.bridges g) B.numbers

  -- The records of the kind `k`, which is this one, were read.
  module _ {r : Result Shape Refusal} (k : ℕ) (e : kind ≡ k) (run : Run ws k s r) where
    this_run : Run ws kind s r
    this_run = rw e run

    pub kind_read : (k ≡ 2 → ⊥) → KindRead ws links kind r
    kind_read d =
        record {
          next = λ t n.
              one-kind-more links (this_run.reached t n) (this_run.ended t n) (this_run.others t n)
              (numbers_kept (λ z. d (sym e ∙ z)) (this_run.others t n));
          refuses = run.refuses;
        }

    pub half_links_read : {links' : List ℕ} → NumbersKept ws links' r → KindRead ws links' kind r
    half_links_read {links'} kept =
        record {
          next = λ t n. one-kind-more links' (this_run.reached t n) (this_run.ended t n) (this_run.others t n) (kept t n);
          refuses = run.refuses;
        }
