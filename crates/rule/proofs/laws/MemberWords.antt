-- The words of an accepted table's member records: the record `j` has the two words that `member_record` gives for it, behind the words of
-- all records of the other kinds. Assumes nothing.
use Rattle.std.specs.Prelude.{ℕ, ◌+◌, ◌*◌, ◌/◌, ◌%◌, ◌^◌, ◌≤◌, ◌<◌, ◌≡◌, refl, List, [], ◌∷◌, ◌++◌, ◌⊎◌, eqb, length, get_or, take, drop}
use Rattle.std.proofs.Common.{arith, sym, ap, ◌∙◌, subst, inl, inr, eqb→eq, length-append}
use Rattle.std.proofs.Math.Option.{none}
use Rattle.std.proofs.Math.ListN.{get_or-append}
use Rattle.std.proofs.lemmas.List.{get_or_at}
use Rattle.lists.specs.Members.{In}
use Rattle.lists.proofs.laws.NumberLaws.{le_or_gt, passes}
use Rattle.lists.proofs.laws.PartLaws.{rest_in}
use Rattle.rule.specs.Words.{words_of}
use Rattle.rule.specs.Records.{Member, field_at, bridge_of, half_link_of, vid_of, member_of, Layout, layouts}
use Rattle.rule.specs.Outcome.{answered}
use Rattle.rule.specs.Plan.{Plan}
use Rattle.rule.specs.Check.{Reading, start, faults, lowest_fault, verdict}
use Rattle.rule.specs.Services.{bit, member_record}
use Rattle.rule.specs.ComesBack.{Bytes, members_start, member_at, own_words}
use Rattle.rule.proofs.laws.Accepted.{no_fault, not-ltb, HasKind, read_one, accepted-ends}

-- Its words have 32 bits.
pub words_fit : (t : List ℕ) → Bytes t → (w : ℕ) → In w (words_of t) → w < 2 ^ 32
unfolding words_of
words_fit [] B w k = absurd k
words_fit (a ∷ []) B w k = absurd k
words_fit (a ∷ b ∷ []) B w k = absurd k
words_fit (a ∷ b ∷ c ∷ []) B w k = absurd k
words_fit (a ∷ b ∷ c ∷ d ∷ t) B w (inl e) =
    omega (arith, B a (inl refl), B b (inr (inl refl)), B c (inr (inr (inl refl))), B d (inr (inr (inr (inl refl)))))
words_fit (a ∷ b ∷ c ∷ d ∷ t) B w (inr k) = words_fit t (λ x h. B x (inr (inr (inr (inr h))))) w k

-- A record without a fault is written as it was read.
pub bit-back : (n : ℕ) → n < 2 → bit (eqb n 1) ≡ n
bit-back n h = go (le_or_gt n 0)
  where
    go : (n ≤ 0) ⊎ (0 < n) → bit (eqb n 1) ≡ n
    go (inl l) = let e : n ≡ 0 = omega arith in rw e refl
    go (inr l) = let e : n ≡ 1 = omega arith in rw e refl

-- The top byte of a member record's first word, by its fields.
within_16 : (x : ℕ) → x < 16 → x % 16 ≡ x
within_16 x h = omega arith

clear-bits : (q : ℕ) → q / 16 ≡ 4 → q / 4 % 4 ≡ 0 → q / 4 ≡ 16
clear-bits q k z = let h : (16 ≤ q / 4) × (q / 4 < 20) = (omega (arith, k), omega (arith, k)) in settled (q / 4) h.0 h.1 z
  where
    settled : (x : ℕ) → 16 ≤ x → x < 20 → x % 4 ≡ 0 → x ≡ 16
    settled x l g z = omega arith

last-bits : (q : ℕ) → q / 4 ≡ 16 → q ≡ 64 + 2 * (q / 2 % 2) + q % 2
last-bits q k = let h : (64 ≤ q) × (q < 68) = (omega (arith, k), omega (arith, k)) in settled q h.0 h.1
  where
    settled : (x : ℕ) → 64 ≤ x → x < 68 → x ≡ 64 + 2 * (x / 2 % 2) + x % 2
    settled x l g = omega arith

top_byte : (q a b : ℕ) → q < 256 → q / 16 % 16 ≡ 4 → q / 4 % 4 ≡ 0 → a ≡ q / 2 % 2 → b ≡ q % 2 → q ≡ 64 + 2 * a + b
top_byte q a b h k z e f =
    last-bits q (clear-bits q (sym (within_16 (q / 16) (omega (arith, h))) ∙ k) z) ∙ rw (e, f) refl

pub record-back : (r : List ℕ) → 2 ≤ length r → ((w : ℕ) → In w r → w < 2 ^ 32) → field_at 0 31 28 r ≡ 4 → field_at 0 27 26 r ≡ 0
    → take 2 r ≡ member_record (member_of r)
record-back [] l f k z = absurd (omega arith)
record-back (v ∷ []) l f k z = absurd (omega arith)
record-back (v ∷ w ∷ r) l f k z = λ i. first i ∷ second i ∷ []
  where
    t : ℕ
    t = bit (eqb (field_at 0 25 25 (v ∷ w ∷ r)) 1)

    u : ℕ
    u = bit (eqb (field_at 0 24 24 (v ∷ w ∷ r)) 1)

    halves : v / 2 ^ 25 ≡ v / 2 ^ 24 / 2
    halves = omega arith

    quarters : v / 2 ^ 26 ≡ v / 2 ^ 24 / 4
    quarters = omega arith

    sixteenths : v / 2 ^ 28 ≡ v / 2 ^ 24 / 16
    sixteenths = omega arith

    top : v / 2 ^ 24 ≡ 64 + 2 * t + u
    top = top_byte (v / 2 ^ 24) t u (omega (arith, f v (inl refl)))
        (sym (ap (λ (n : ℕ). n % 16) sixteenths) ∙ k) (sym (ap (λ (n : ℕ). n % 4) quarters) ∙ z) t_is u_is
      where
        t_is : t ≡ v / 2 ^ 24 / 2 % 2
        t_is = bit-back (field_at 0 25 25 (v ∷ w ∷ r)) (omega arith) ∙ ap (λ (n : ℕ). n % 2) halves

        u_is : u ≡ v / 2 ^ 24 % 2
        u_is = bit-back (field_at 0 24 24 (v ∷ w ∷ r)) (omega arith)

    first : v ≡ 4 * 2 ^ 28 + t * 2 ^ 25 + u * 2 ^ 24 + field_at 0 23 0 (v ∷ w ∷ r)
    first = omega (arith, top)

    second : w ≡ field_at 1 31 16 (v ∷ w ∷ r) * 2 ^ 16 + field_at 1 15 0 (v ∷ w ∷ r)
    second = omega (arith, f w (inr (inl refl)))

-- Where a reading stands: behind the member records read so far, which have their own words; before the first of them there is none.
record MembersRead (ws : List ℕ) (s : Reading) : Type 0 where
  behind : s.last ≤ 4 → s.at ≡ members_start s.plan + 2 * length s.plan.members
  none_yet : s.last < 4 → length s.plan.members ≡ 0
  each : (j : ℕ) → j < length s.plan.members → take 2 (drop (members_start s.plan + 2 * j) ws) ≡ member_record (member_at s.plan j)

module _ (ws : List ℕ) (fit : (w : ℕ) → In w ws → w < 2 ^ 32) (s : Reading) where
  -- A record of a kind before the members: none of them has been read.
  module _ (l : Layout) (n : lowest_fault (faults s l (drop s.at ws)) ≡ none) where
    not_lower : s.last ≤ l.kind
    not_lower = not-ltb l.kind s.last (no_fault (faults s l (drop s.at ws)) n).0

    enough : l.words ≤ length (drop s.at ws)
    enough = not-ltb (length (drop s.at ws)) l.words (no_fault (faults s l (drop s.at ws)) n).1.0

    zero_bits : l.zero_bits (drop s.at ws) ≡ 0
    zero_bits = eqb→eq (l.zero_bits (drop s.at ws)) 0
        (passes (eqb (l.zero_bits (drop s.at ws)) 0) (no_fault (faults s l (drop s.at ws)) n).1.1.0)

  one_more : (l : Layout) → In l layouts → HasKind l (drop s.at ws) → lowest_fault (faults s l (drop s.at ws)) ≡ none
      → MembersRead ws s → MembersRead ws (read_one s l (drop s.at ws))
  one_more l (inl e) k n M = rw e (record {
    behind = λ h. omega (arith, M.behind (omega (arith, low)), length-append s.plan.bridges (bridge_of (drop s.at ws) ∷ []));
    none_yet = λ h. M.none_yet (omega (arith, low));
    each = λ j h. absurd (omega (arith, M.none_yet (omega (arith, low))));
  })
    where
      low : s.last ≤ 1
      low = rw e at (not_lower l n)
  one_more l (inr (inl e)) k n M = rw e (record {
    behind = λ h. omega (arith, M.behind (omega (arith, low)), length-append s.plan.half_links (half_link_of (drop s.at ws) ∷ []));
    none_yet = λ h. M.none_yet (omega (arith, low));
    each = λ j h. absurd (omega (arith, M.none_yet (omega (arith, low))));
  })
    where
      low : s.last ≤ 2
      low = rw e at (not_lower l n)
  one_more l (inr (inr (inl e))) k n M = rw e (record {
    behind = λ h. omega (arith, M.behind (omega (arith, low)), length-append s.plan.vids (vid_of (drop s.at ws) ∷ []));
    none_yet = λ h. M.none_yet (omega (arith, low));
    each = λ j h. absurd (omega (arith, M.none_yet (omega (arith, low))));
  })
    where
      low : s.last ≤ 3
      low = rw e at (not_lower l n)
  one_more l (inr (inr (inr (inl e)))) k n M = rw e (record {
    behind = λ h. omega (arith, at-end, length-append s.plan.members (m ∷ []));
    none_yet = λ h. absurd (omega arith);
    each = λ j h. go j h (le_or_gt (length s.plan.members) j);
  })
    where
      m : Member
      m = member_of (drop s.at ws)

      at-end : s.at ≡ members_start s.plan + 2 * length s.plan.members
      at-end = M.behind (rw e at (not_lower l n))

      written : take 2 (drop s.at ws) ≡ member_record m
      written = record-back (drop s.at ws) (rw e at (enough l n)) (λ w i. fit w (rest_in s.at w ws i)) (rw e at k) (rw e at (zero_bits l n))

      go : (j : ℕ) → j < length (s.plan.members ++ (m ∷ [])) → (length s.plan.members ≤ j) ⊎ (j < length s.plan.members)
          → take 2 (drop (members_start s.plan + 2 * j) ws) ≡ member_record (get_or (s.plan.members ++ (m ∷ [])) j (member_of []))
      go j h (inl i) =
          let f : length s.plan.members ≡ j = omega (arith, length-append s.plan.members (m ∷ []))
          in let g : members_start s.plan + 2 * j ≡ s.at = omega (arith, at-end)
          in ap (λ (i : ℕ). take 2 (drop i ws)) g ∙ written ∙ ap member_record (sym (get_or_at s.plan.members m [] (member_of []) j f))
      go j h (inr i) = M.each j i ∙ ap member_record (sym (get_or-append s.plan.members (m ∷ []) (member_of []) j i))
  one_more l (inr (inr (inr (inr (inl e))))) k n M =
      rw e (record { behind = λ h. absurd (omega arith); none_yet = λ h. absurd (omega arith); each = M.each })
  one_more l (inr (inr (inr (inr (inr (inl e)))))) k n M =
      rw e (record { behind = λ h. absurd (omega arith); none_yet = λ h. absurd (omega arith); each = M.each })
  one_more l (inr (inr (inr (inr (inr (inr i)))))) k n M = absurd i

-- The table's own words of each member record are those of `member_record`.
pub own-words : (t : List ℕ) (p : Plan) → Bytes t → verdict t ≡ answered p → (j : ℕ) → j < length p.members
    → own_words t p j ≡ member_record (member_at p j)
own-words t p B e =
    let (s, M, f) = accepted-ends (words_of t) (MembersRead (words_of t)) (one_more (words_of t) (words_fit t B)) t p refl none_read e
    in subst (λ (q : Plan). (j : ℕ) → j < length q.members → own_words t q j ≡ member_record (member_at q j)) f M.each
  where
    none_read : MembersRead (words_of t) start
    none_read = record { behind = λ h. refl; none_yet = λ h. refl; each = λ j h. absurd (omega arith) }
