-- What the tests of a change say, one after the other. Assumes nothing.
use Rattle.std.specs.Prelude.{ℕ, suc, ◌+◌, ◌*◌, ◌≤◌, ◌<◌, min, ◌≡◌, Result, Ok, Err, Bool, not, cond, ◌&&◌, ◌||◌, ◌⊎◌, T, eqb, leb}
use Rattle.std.proofs.Common.{arith, ap, ◌∙◌, inl, inr, eqb→eq, leb→le, le→leb, lt→ltb}
use Rattle.std.proofs.Math.Path.{refl, sym}
use mathlib.Core.List.{List, [], ◌∷◌}
use Rattle.std.proofs.Math.Option.{Option, none, some}
use Rattle.std.proofs.Math.Bool.{true, false}
use Rattle.std.proofs.Math.Dec.{ltb, ltb→lt}
use Rattle.std.proofs.Math.ListN.{length}
use Rattle.lists.specs.Lists.{selected, any_passes, first_passing}
use Rattle.lists.proofs.laws.NumberLaws.{is_true, is_false, le_or_gt, both, first_of, last_of}
use Rattle.lists.proofs.laws.SelectedLaws.{selected-in}
use Rattle.lists.proofs.laws.DistinctLaws.{first-in}
use Rattle.rule.specs.Records.{Vid, half_link_of}
use Rattle.rule.specs.declared.refusal.Refusal.{Refusal}
use Rattle.rule.specs.Refusals.{refused_by}
use Rattle.rule.specs.Words.{words_of}
use Rattle.rule.specs.Outcome.{Outcome, answered, refused_as, refused_if}
use Rattle.rule.specs.Check.{verdict}
use Rattle.rule.specs.Plan.{Plan, has_vid, known_bridge, vid_record}
use Rattle.rule.specs.PlanLaws.{PlanLaws}
use Rattle.table.specs.declared.shape.Shape.{Shape}
use Rattle.table.specs.Positions.{half_links_from, plan_at}
use Rattle.table.proofs.laws.PositionLaws.{how_many}
use Rattle.table.specs.Numbered.{index_of}
use Rattle.verdict.specs.Examination.{examined_values}
use Rattle.verdict.proofs.laws.AskedLaws.{asked, not-asked}
use Rattle.edits.specs.declared.change.HalfLinkName.{HalfLinkName}
use Rattle.edits.specs.declared.change.Running.{Running}
use Rattle.edits.specs.Edits.{is_named, word_of}
use Rattle.edits.specs.Running.{most_changes}
use Rattle.running.specs.Permission.{no_vid, lacks_names, plan_permission, permission, RoomOf}

-- A bound as good as three.
leb-least : (r a b c : ℕ) → r ≤ a → r ≤ b → r ≤ c → (r ≡ a) ⊎ (r ≡ b) ⊎ (r ≡ c) → RoomOf r a b c
leb-least r a b c x y z which n = go (le_or_gt n r)
  where
    least : n ≤ a → n ≤ b → n ≤ c → (r ≡ a) ⊎ (r ≡ b) ⊎ (r ≡ c) → n ≤ r
    least k l m (inl e) = omega (arith, k, e)
    least k l m (inr (inl e)) = omega (arith, l, e)
    least k l m (inr (inr e)) = omega (arith, m, e)

    not-all : r < n → T (leb n a && leb n b && leb n c) → ⊥
    not-all l t = omega (
      arith,
      l,
      least (leb→le n a (first_of (leb n a) (leb n b) (first_of (leb n a && leb n b) (leb n c) t)))
          (leb→le n b (last_of (leb n a) (leb n b) (first_of (leb n a && leb n b) (leb n c) t))) (leb→le n c (last_of (leb n a && leb n b) (leb n c) t)) which,
    )

    go : (n ≤ r) ⊎ (r < n) → leb n r ≡ (leb n a && leb n b && leb n c)
    go (inl l) = is_true (leb n r) (le→leb n r l) ∙ sym (is_true (leb n a && leb n b && leb n c)
        (both (leb n a && leb n b) (leb n c) (both (leb n a) (leb n b) (le→leb n a (omega (arith, l, x))) (le→leb n b (omega (arith, l, y)))) (le→leb n c (omega (arith, l, z)))))
    go (inr l) = is_false (leb n r) (λ t. omega (arith, l, leb→le n r t)) ∙ sym (is_false (leb n a && leb n b && leb n c) (not-all l))

pub first-least : (a b c : ℕ) → a ≤ b → a ≤ c → RoomOf a a b c
first-least a b c x y = leb-least a a b c (omega arith) x y (inl refl)

pub second-least : (a b c : ℕ) → b ≤ a → b ≤ c → RoomOf b a b c
second-least a b c x y = leb-least b a b c x (omega arith) y (inr (inl refl))

pub third-least : (a b c : ℕ) → c ≤ a → c ≤ b → RoomOf c a b c
third-least a b c x y = leb-least c a b c x y (omega arith) (inr (inr refl))

pub least-of_three : (r a b c : ℕ) → r ≡ min (min a b) c → RoomOf r a b c
least-of_three r a b c e = leb-least r a b c (omega arith) (omega arith) (omega arith) (which (le_or_gt a b) (le_or_gt (min a b) c))
  where
    which : (a ≤ b) ⊎ (b < a) → (min a b ≤ c) ⊎ (c < min a b) → (r ≡ a) ⊎ (r ≡ b) ⊎ (r ≡ c)
    which (inl k) (inl l) = inl (omega arith)
    which (inr k) (inl l) = inr (inl (omega arith))
    which d (inr l) = inr (inr (omega arith))

-- One passes where the first that passes is there.
module _ {A : Type 0} (test : A → Bool) where
  pub any-first : (xs : List A) → any_passes test xs ≡ ltb (first_passing test xs) (length xs)
  unfolding any_passes first_passing
  any-first [] = refl
  any-first (x ∷ xs) = go (test x) (any-first xs)
    where
      go : (b : Bool) → any_passes test xs ≡ ltb (first_passing test xs) (length xs)
          → (b || any_passes test xs) ≡ ltb (cond b 0 (suc (first_passing test xs))) (suc (length xs))
      go true e = sym (is_true (ltb 0 (suc (length xs))) (lt→ltb 0 (suc (length xs)) (omega arith)))
      go false e = e ∙ same (le_or_gt (length xs) (first_passing test xs))
        where
          same : (length xs ≤ first_passing test xs) ⊎ (first_passing test xs < length xs)
              → ltb (first_passing test xs) (length xs) ≡ ltb (suc (first_passing test xs)) (suc (length xs))
          same (inl l) = is_false (ltb (first_passing test xs) (length xs)) (λ t. omega (arith, l, ltb→lt (first_passing test xs) (length xs) t))
              ∙ sym (is_false (ltb (suc (first_passing test xs)) (suc (length xs))) (λ t. omega (arith, l, ltb→lt (suc (first_passing test xs)) (suc (length xs)) t)))
          same (inr l) = is_true (ltb (first_passing test xs) (length xs)) (lt→ltb (first_passing test xs) (length xs) l)
              ∙ sym (is_true (ltb (suc (first_passing test xs)) (suc (length xs))) (lt→ltb (suc (first_passing test xs)) (suc (length xs)) (omega (arith, l))))

pub was-false : (b : Bool) → not b ≡ true → b ≡ false
was-false true e = sym e
was-false false e = refl

pub was-true : (b : Bool) → not b ≡ false → b ≡ true
was-true true e = refl
was-true false e = sym e

-- 11

module _ (p : Plan) (r : Running) (n : HalfLinkName) where
  pub lacks_bridge : length p.bridges ≤ r.bridge → true ≡ lacks_names p r n
  lacks_bridge l = sym (ap (λ (b : Bool). not b || not (known_bridge p n.near) || no_vid (vid_record p r.vid))
      (is_false (known_bridge p r.bridge) (λ t. omega (arith, l, ltb→lt r.bridge (length p.bridges) t))))

  known : (b : ℕ) → b < length p.bridges → known_bridge p b ≡ true
  known b l = is_true (known_bridge p b) (lt→ltb b (length p.bridges) l)

  pub lacks_near : r.bridge < length p.bridges → length p.bridges ≤ n.near → true ≡ lacks_names p r n
  lacks_near l m = sym (λ j. not (known r.bridge l j) || not (unknown j) || no_vid (vid_record p r.vid))
    where
      unknown : known_bridge p n.near ≡ false
      unknown = is_false (known_bridge p n.near) (λ t. omega (arith, m, ltb→lt n.near (length p.bridges) t))

  pub lacks_vid : PlanLaws p → (index : ℕ) → index ≡ index_of (vid_record p r.vid) → r.bridge < length p.bridges → n.near < length p.bridges
      → eqb index 0 ≡ lacks_names p r n
  lacks_vid L index e l m = go (vid_record p r.vid) refl e
      ∙ sym (λ j. not (known r.bridge l j) || not (known n.near m j) || no_vid (vid_record p r.vid))
    where
      go : (o : Option Vid) → vid_record p r.vid ≡ o → index ≡ index_of o → eqb index 0 ≡ no_vid (vid_record p r.vid)
      go none f e = ap (λ (i : ℕ). eqb i 0) e ∙ sym (ap no_vid f)
      go (some v) f e = is_false (eqb index 0) (λ t. omega (arith, e, eqb→eq index 0 t, least)) ∙ sym (ap no_vid f)
        where
          least : 1 ≤ v.index
          least = (L.vids.fits v (selected-in (has_vid r.vid) v p.vids (first-in (selected (has_vid r.vid) p.vids) v f)).0).least_index

  -- The tests one after the other.
  module _ (fits : Bool) (room : ℕ) where
    abbrev Permission : Outcome ℕ → Type 0
    Permission o = o ≡ plan_permission p r n fits room

    module _ (named : lacks_names p r n ≡ false) (i : ℕ) (first : i ≡ first_passing (is_named n) p.half_links) where
      pub is_17 : length p.half_links ≤ i → Permission (refused_as 17)
      is_17 l = sym (λ j. refused_if (named j) 11 (refused_if (not (none-there j)) 17 (refused_if (not fits) 18
          (refused_if (leb most_changes r.changes) 19 (refused_if (not (leb (length p.bridges) room)) 13 (answered (word_of p n)))))))
        where
          none-there : any_passes (is_named n) p.half_links ≡ false
          none-there = any-first (is_named n) p.half_links
              ∙ is_false (ltb (first_passing (is_named n) p.half_links) (length p.half_links))
              (λ t. omega (arith, l, first, ltb→lt (first_passing (is_named n) p.half_links) (length p.half_links) t))

      module _ (there : i < length p.half_links) where
        one-there : any_passes (is_named n) p.half_links ≡ true
        one-there = any-first (is_named n) p.half_links
            ∙ is_true (ltb (first_passing (is_named n) p.half_links) (length p.half_links))
            (lt→ltb (first_passing (is_named n) p.half_links) (length p.half_links) (omega (arith, there, first)))

        pub is_18 : fits ≡ false → Permission (refused_as 18)
        is_18 e = sym (λ j. refused_if (named j) 11 (refused_if (not (one-there j)) 17 (refused_if (not (e j)) 18
            (refused_if (leb most_changes r.changes) 19 (refused_if (not (leb (length p.bridges) room)) 13 (answered (word_of p n)))))))

        module _ (in_range : fits ≡ true) where
          pub is_19 : 65535 ≤ r.changes → Permission (refused_as 19)
          is_19 l = sym (λ j. refused_if (named j) 11 (refused_if (not (one-there j)) 17 (refused_if (not (in_range j)) 18
              (refused_if (is_true (leb most_changes r.changes) (le→leb most_changes r.changes l) j) 19
              (refused_if (not (leb (length p.bridges) room)) 13 (answered (word_of p n)))))))

          module _ (few : r.changes < 65535) where
            not_full : leb most_changes r.changes ≡ false
            not_full = is_false (leb most_changes r.changes) (λ t. omega (arith, few, leb→le most_changes r.changes t))

            pub is_13 : room < length p.bridges → Permission (refused_as 13)
            is_13 l = sym (λ j. refused_if (named j) 11 (refused_if (not (one-there j)) 17 (refused_if (not (in_range j)) 18
                (refused_if (not_full j) 19 (refused_if (not (too_short j)) 13 (answered (word_of p n)))))))
              where
                too_short : leb (length p.bridges) room ≡ false
                too_short = is_false (leb (length p.bridges) room) (λ t. omega (arith, l, leb→le (length p.bridges) room t))

            pub is_permitted : length p.bridges ≤ room → (k : ℕ) → k ≡ 3 * length p.bridges + 3 * i → Permission (answered k)
            is_permitted l k e = (λ j. answered ((e ∙ (λ j. 3 * length p.bridges + 3 * first j)) j))
                ∙ sym (λ j. refused_if (named j) 11 (refused_if (not (one-there j)) 17 (refused_if (not (in_range j)) 18
                (refused_if (not_full j) 19 (refused_if (not (long j)) 13 (answered (word_of p n)))))))
              where
                long : leb (length p.bridges) room ≡ true
                long = is_true (leb (length p.bridges) room) (le→leb (length p.bridges) room l)

    pub is_11 : lacks_names p r n ≡ true → Permission (refused_as 11)
    is_11 e = sym (ap (λ (b : Bool). refused_if b 11 (refused_if (not (any_passes (is_named n) p.half_links)) 17 (refused_if (not fits) 18
        (refused_if (leb most_changes r.changes) 19 (refused_if (not (leb (length p.bridges) room)) 13 (answered (word_of p n))))))) e)

-- Of a table that was examined.
module _ (t : List ℕ) (e : Result Shape Refusal) (f : examined_values (words_of t) e ≡ verdict t) (r : Running) (n : HalfLinkName) (fits : Bool) (room : ℕ) where
  pub asked-permission : (s : Shape) → e ≡ Ok s → plan_permission (plan_at (words_of t) s) r n fits room ≡ permission t r n fits room
  unfolding permission
  asked-permission s g = asked t e f (λ p. plan_permission p r n fits room) s g

  pub not-asked-permission : (refusal : Refusal) → e ≡ Err refusal → refused_by refusal ≡ permission t r n fits room
  unfolding permission
  not-asked-permission refusal g = not-asked t e f (λ p. plan_permission p r n fits room) refusal g

pub links-counted : (ws : List ℕ) (s : Shape) → length (plan_at ws s).half_links ≡ s.half_links
links-counted ws s = how_many half_link_of 3 (half_links_from s) ws s.half_links
