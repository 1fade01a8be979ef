-- A change keeps a table's records readable: each record, or what takes the place of the half-link named, is read without a fault in the
-- edited table, and leads to the edited plan. Assumes nothing.
use Rattle.std.specs.Prelude.{ℕ, ◌+◌, ◌≤◌, ◌≡◌, ◌⊎◌, ◌&&◌, ◌||◌, leb, ltb, drop}
use native.Mathlib.Omega.{arith}
use Rattle.std.proofs.Math.Path.{refl, sym, ap}
use Rattle.std.proofs.Common.{◌∙◌, subst, inl, inr, eqb→eq, leb→le, le→leb, lt→ltb, ltb→lt}
use mathlib.Core.List.{List, [], ◌∷◌, ◌++◌, flat_map, append-nil}
use Rattle.std.proofs.Math.Option.{Option, none, some}
use Rattle.std.proofs.Math.Bool.{Bool, true, false, cond, not}
use Rattle.std.proofs.Math.Dec.{T, eqb}
use Rattle.std.proofs.Math.ListN.{length}
use Rattle.lists.specs.Lists.{cons_if, selected, any_passes}
use Rattle.lists.specs.Members.{In}
use Rattle.lists.proofs.laws.NumberLaws.{is_false, either_right, first_of, last_of, same_or_not}
use Rattle.lists.proofs.laws.MemberLaws.{none-not-some}
use Rattle.lists.proofs.laws.GivenLaws.{selected-flat_map, flat_map-same, flat_map-selected, flat_map_append}
use Rattle.rule.specs.Words.{word, bits}
use Rattle.rule.specs.Records.{HalfLink, half_link, field_at, half_link_of, metric_limits, port_limits, link_limits, in_limits, Layout, layouts, bridge_layout, half_link_layout, vid_layout, member_layout, traffic_layout}
use Rattle.rule.specs.Plan.{Plan}
use Rattle.rule.specs.Check.{outside_range, unknown_name, repeats_port, repeated, mirrors, wrong_half, has_link, wrong_link, Reading, Fault, faults}
use Rattle.rule.proofs.laws.Accepted.{NoFault, no_fault, not-ltb, HasKind, read_one}
use Rattle.edits.specs.Edits.{Change, is_named, with_metric, replaced_by, after_change, changed_plan, with_metric_bits}
use Rattle.edits.proofs.laws.RecordWords.{Readable, Reads, of_three, none-lowest, reads_append}

-- The words of a record after a change: those of a half-link with the name get the new metric or are gone.
abbrev pub words_replaced_by : Option ℕ → List ℕ → List (List ℕ)
words_replaced_by none r = []
words_replaced_by (some m) r = (with_metric_bits m (word r 0) ∷ drop 1 r) ∷ []

abbrev pub words_after_change : Change → List ℕ → List (List ℕ)
words_after_change c r = cond (eqb (field_at 0 31 28 r) 2 && is_named c.name (half_link_of r)) (words_replaced_by c.metric r) (r ∷ [])

-- The metric of a change, where it has one, is in its range.
abbrev pub MetricFits : Option ℕ → Type 0
MetricFits none = Unit {0}
MetricFits (some m) = T (in_limits metric_limits m)

-- The faults behind the first.
abbrev later_faults : Reading → Layout → List ℕ → List Fault
later_faults s l r = drop 1 (faults s l r)

half_link-row : (l : Layout) → In l layouts → l.kind ≡ 2 → l ≡ half_link_layout
half_link-row l (inl e) k = absurd (omega (arith, k, ap (λ (l : Layout). l.kind) e))
half_link-row l (inr (inl e)) k = e
half_link-row l (inr (inr (inl e))) k = absurd (omega (arith, k, ap (λ (l : Layout). l.kind) e))
half_link-row l (inr (inr (inr (inl e)))) k = absurd (omega (arith, k, ap (λ (l : Layout). l.kind) e))
half_link-row l (inr (inr (inr (inr (inl e))))) k = absurd (omega (arith, k, ap (λ (l : Layout). l.kind) e))
half_link-row l (inr (inr (inr (inr (inr (inl e)))))) k = absurd (omega (arith, k, ap (λ (l : Layout). l.kind) e))
half_link-row l (inr (inr (inr (inr (inr (inr i)))))) k = absurd i

-- What a half-link's names are

-- All but the mark and the metric.
record SameNames (h k : HalfLink) : Type 0 where
  near : k.near ≡ h.near
  far : k.far ≡ h.far
  port : k.port ≡ h.port
  link : k.link ≡ h.link

-- The list is what takes the place of a half-link: nothing, or one with its names.
abbrev Stands : HalfLink → List HalfLink → Type 0
Stands h ks = (ks ≡ []) ⊎ ((k : HalfLink) × (ks ≡ k ∷ []) × SameNames h k)

stands : (c : Change) (h : HalfLink) → Stands h (after_change c h)
stands c h = go (is_named c.name h) c.metric
  where
    go : (b : Bool) (m : Option ℕ) → Stands h (cond b (replaced_by m h) (h ∷ []))
    go true none = inl refl
    go true (some m) = inr (with_metric m h, refl, record { near = refl; far = refl; port = refl; link = refl })
    go false m = inr (h, refl, record { near = refl; far = refl; port = refl; link = refl })

-- The half-links of an edited plan

module _ (c : Change) where
  -- There are no more of them.
  no_more : (hs : List HalfLink) → length (flat_map (after_change c) hs) ≤ length hs
  unfolding flat_map
  no_more [] = omega arith
  no_more (h ∷ hs) = go (after_change c h) (stands c h) (no_more hs)
    where
      go : (ks : List HalfLink) → Stands h ks → length (flat_map (after_change c) hs) ≤ length hs
          → length (ks ++ flat_map (after_change c) hs) ≤ length (h ∷ hs)
      go ks (inl e) f = rw e (omega (arith, f))
      go ks (inr (k, e, s)) f = rw e (omega (arith, f))

  -- A test that the names alone decide.
  ByNames : (HalfLink → Bool) → Type 0
  ByNames test = (h k : HalfLink) → SameNames h k → test k ≡ test h

  -- It passes for one of them only where it passed before.
  any-before : (test : HalfLink → Bool) → ByNames test → (hs : List HalfLink) → T (any_passes test (flat_map (after_change c) hs)) → T (any_passes test hs)
  unfolding any_passes ByNames flat_map
  any-before test by_names [] t = t
  any-before test by_names (h ∷ hs) t = go (after_change c h) (stands c h) (any-before test by_names hs) t
    where
      on : (b d : Bool) → (T (any_passes test (flat_map (after_change c) hs)) → T (any_passes test hs)) → d ≡ b
          → T (d || any_passes test (flat_map (after_change c) hs)) → T (b || any_passes test hs)
      on true d f e t = tt
      on false d f e t = f (rw e at t)

      go : (ks : List HalfLink) → Stands h ks → (T (any_passes test (flat_map (after_change c) hs)) → T (any_passes test hs))
          → T (any_passes test (ks ++ flat_map (after_change c) hs)) → T (test h || any_passes test hs)
      go ks (inl e) f t = either_right (test h) (any_passes test hs) (f (rw e at t))
      go ks (inr (k, e, s)) f t = on (test h) (test k) f (by_names h k s) (rw e at t)

  -- Those that pass it are the changed ones of those that passed before.
  selected-changed : (test : HalfLink → Bool) → ByNames test → (hs : List HalfLink)
      → selected test (flat_map (after_change c) hs) ≡ flat_map (after_change c) (selected test hs)
  unfolding selected ByNames
  selected-changed test by_names hs =
      selected-flat_map test (after_change c) hs
      ∙ flat_map-same (λ h. selected test (after_change c h)) (λ h. cond (test h) (after_change c h) []) hs (λ h i. each h (after_change c h) (stands c h))
      ∙ sym (flat_map-selected (after_change c) test hs)
    where
      one : (h k : HalfLink) (b : Bool) → cons_if b k [] ≡ cond b (k ∷ []) []
      one h k true = refl
      one h k false = refl

      nothing : (b : Bool) → ◌≡◌ {A = List HalfLink} [] (cond b [] [])
      nothing true = refl
      nothing false = refl

      each : (h : HalfLink) (ks : List HalfLink) → Stands h ks → selected test ks ≡ cond (test h) ks []
      each h ks (inl e) = rw e (nothing (test h))
      each h ks (inr (k, e, s)) = rw e (one h k (test k) ∙ ap (λ (b : Bool). cond b (k ∷ []) []) (by_names h k s))

  -- A half-link that mirrors the one before it mirrors what takes that one's place.
  wrong_before : (h k : HalfLink) → SameNames h k → (es : List HalfLink) → (T (wrong_half h es) → ⊥) → T (wrong_half k (flat_map (after_change c) es)) → ⊥
  unfolding flat_map
  wrong_before h k s [] f t = t
  wrong_before h k s (e ∷ []) f t = go (after_change c e) (stands c e) t
    where
      go : (ks : List HalfLink) → Stands e ks → T (wrong_half k (ks ++ [])) → ⊥
      go ks (inl i) t = rw i at t
      go ks (inr (d, i, n)) t = f (subst (λ (b : Bool). T (not b)) same (rw i at t))
        where
          same : mirrors k d ≡ mirrors h e
          same = rw (s.near, s.far, n.near, n.far) refl
  wrong_before h k s (e ∷ e' ∷ es) f t = f tt

  -- Where the reading of the edited table stands: with the edited plan.
  abbrev pub edited : Reading → ℕ → ℕ → Reading
  edited s at last = record { at = at; last = last; plan = changed_plan c s.plan }

  module _ (s : Reading) (at last : ℕ) (lower : last ≤ s.last) where
    -- "kinds never fall" after a change either.
    in_order : (kind : ℕ) → (T (ltb kind s.last) → ⊥) → T (ltb kind last) → ⊥
    in_order kind f h = f (lt→ltb kind s.last (omega (arith, lower, ltb→lt kind last h)))

    -- Where no fault but the first has to be looked at again.
    moved : {r : List ℕ} (l : Layout) → Readable s l r → (NoFault (faults s l r) → NoFault (later_faults (edited s at last) l r)) → Readable (edited s at last) l r
    moved {r} l R others = record {
      listed = R.listed;
      kind = R.kind;
      whole = R.whole;
      no_end = R.no_end;
      faultless = none-lowest (faults (edited s at last) l r)
          (in_order l.kind (no_fault (faults s l r) R.faultless).0, others (no_fault (faults s l r) R.faultless));
    }

    -- A record of another kind is read as before.
    abbrev AsBefore : List ℕ → Layout → Type 0
    AsBefore r l = Readable s l r → Readable (edited s at last) l r × (read_one (edited s at last) l r ≡ edited (read_one s l r) (at + l.words) l.kind)

    other-kind : (r : List ℕ) (l : Layout) → In l layouts → (l.kind ≡ 2 → ⊥) → AsBefore r l
    other-kind r l (inl e) o = rw e (λ R. (moved bridge_layout R (λ f. f.1), refl))
    other-kind r l (inr (inl e)) o = absurd (o (ap (λ (l : Layout). l.kind) e))
    other-kind r l (inr (inr (inl e))) o = rw e (λ R. (moved vid_layout R (λ f. f.1), refl))
    other-kind r l (inr (inr (inr (inl e)))) o = rw e (λ R. (moved member_layout R (λ f. f.1), refl))
    other-kind r l (inr (inr (inr (inr (inl e))))) o = rw e (λ R. (moved traffic_layout R (λ f. f.1), refl))
    other-kind r l (inr (inr (inr (inr (inr (inl e)))))) o = rw e (λ R. absurd (none-not-some (sym R.no_end)))
    other-kind r l (inr (inr (inr (inr (inr (inr k)))))) o = absurd k

    -- Words in the place of a half-link's: a half-link with its names, within the ranges.
    record Replaces (r k : List ℕ) : Type 0 where
      kind : HasKind half_link_layout k
      whole : length k ≡ 3
      zero_bits : field_at 0 26 24 k ≡ field_at 0 26 24 r
      in_range : T (outside_range half_link_layout.ranges k || false) → ⊥
      names : SameNames (half_link_of r) (half_link_of k)

    module _ (r k : List ℕ) (R : Readable s half_link_layout r) (P : Replaces r k) where
      -- None of the faults applied before.
      abbrev none_before : NoFault (faults s half_link_layout r)
      none_before = no_fault (faults s half_link_layout r) R.faultless

      -- 5.
      few_enough : T (leb 512 (length (flat_map (after_change c) s.plan.half_links))) → ⊥
      few_enough t = none_before.1.1.1.0
          (le→leb 512 (length s.plan.half_links) (omega (arith, no_more s.plan.half_links, leb→le 512 (length (flat_map (after_change c) s.plan.half_links)) t)))

      -- 7.
      names_known : T (unknown_name (changed_plan c s.plan) (half_link (half_link_of k))) → ⊥
      names_known t = none_before.1.1.1.1.1.0 (rw (P.names.near, P.names.far) at t)

      -- 8.
      port_new : T (repeated (changed_plan c s.plan) (half_link (half_link_of k))) → ⊥
      unfolding ByNames
      port_new t = none_before.1.1.1.1.1.1.0
          (any-before (repeats_port (half_link_of r)) by_names s.plan.half_links
          (subst (λ (test : HalfLink → Bool). T (any_passes test (flat_map (after_change c) s.plan.half_links))) same_test t))
        where
          same_test : repeats_port (half_link_of k) ≡ repeats_port (half_link_of r)
          same_test = λ j e. eqb e.near (P.names.near j) && eqb e.port (P.names.port j)

          by_names : (h d : HalfLink) → SameNames h d → repeats_port (half_link_of r) d ≡ repeats_port (half_link_of r) h
          by_names h d N = λ j. eqb (N.near j) (half_link_of r).near && eqb (N.port j) (half_link_of r).port

      -- 9.
      link_fits : T (wrong_link (changed_plan c s.plan) (half_link (half_link_of k))) → ⊥
      unfolding ByNames
      link_fits t = wrong_before (half_link_of r) (half_link_of k) P.names (selected (has_link (half_link_of r).link) s.plan.half_links)
          none_before.1.1.1.1.1.1.1.0
          (subst (λ (es : List HalfLink). T (wrong_half (half_link_of k) es))
          (ap (λ (n : ℕ). selected (has_link n) (flat_map (after_change c) s.plan.half_links)) P.names.link
          ∙ selected-changed (has_link (half_link_of r).link) (λ h d N j. eqb (N.link j) (half_link_of r).link) s.plan.half_links) t)

      half_link_stays : Readable (edited s at last) half_link_layout k
      half_link_stays = record {
        listed = R.listed;
        kind = P.kind;
        whole = P.whole;
        no_end = refl;
        faultless = none-lowest (faults (edited s at last) half_link_layout k) (
          in_order 2 none_before.0,
          (
            λ t. omega (arith, P.whole, ltb→lt (length k) 3 t),
            (
              λ t. none_before.1.1.0 (subst (λ (n : ℕ). T (not (eqb n 0))) P.zero_bits t),
              (few_enough, (P.in_range, (names_known, (port_new, (link_fits, (λ t. t, tt)))))),
            ),
          ),
        );
      }

    -- A half-link that is not the one named.
    itself : (r : List ℕ) → Readable s half_link_layout r → Replaces r r
    itself r R = record {
      kind = R.kind;
      whole = R.whole;
      zero_bits = refl;
      in_range = (no_fault (faults s half_link_layout r) R.faultless).1.1.1.1.0;
      names = record { near = refl; far = refl; port = refl; link = refl };
    }

    -- "A metric change replaces the 24 metric bits."
    module _ (m : ℕ) (fits : T (in_limits metric_limits m)) where
      least : 1 ≤ m
      least = leb→le 1 m (first_of (leb 1 m) (leb m 16777215) fits)

      greatest : m ≤ 16777215
      greatest = leb→le m 16777215 (last_of (leb 1 m) (leb m 16777215) fits)

      module _ (w : ℕ) where
        kind_kept : bits (with_metric_bits m w) 31 28 ≡ bits w 31 28
        kind_kept = omega (arith, greatest)

        mark_kept : bits (with_metric_bits m w) 27 27 ≡ bits w 27 27
        mark_kept = omega (arith, greatest)

        zeros_kept : bits (with_metric_bits m w) 26 24 ≡ bits w 26 24
        zeros_kept = omega (arith, greatest)

        metric_is : bits (with_metric_bits m w) 23 0 ≡ m
        metric_is = omega (arith, greatest)

      replaced_record : (r : List ℕ) → length r ≡ 3 → half_link_of (with_metric_bits m (word r 0) ∷ drop 1 r) ≡ with_metric m (half_link_of r)
      replaced_record = of_three (λ r. half_link_of (with_metric_bits m (word r 0) ∷ drop 1 r) ≡ with_metric m (half_link_of r)) (λ u v w j. record {
        down = eqb (mark_kept u j) 1;
        metric = metric_is u j;
        near = bits v 31 16;
        far = bits v 15 0;
        port = bits w 31 16;
        link = bits w 15 0;
      })

      -- The new metric is in its range, and port and link number are as they were.
      in_range_still : (u v w : ℕ) → (T (outside_range half_link_layout.ranges (u ∷ v ∷ w ∷ []) || false) → ⊥)
          → T (outside_range half_link_layout.ranges (with_metric_bits m u ∷ v ∷ w ∷ []) || false) → ⊥
      unfolding any_passes
      in_range_still u v w f t = go (in_limits metric_limits (bits u 23 0)) (in_limits metric_limits (bits (with_metric_bits m u) 23 0)) fits_there f t
        where
          others : Bool
          others = not (in_limits port_limits (bits w 31 16)) || (not (in_limits link_limits (bits w 15 0)) || false)

          fits_there : T (in_limits metric_limits (bits (with_metric_bits m u) 23 0))
          fits_there = subst (λ (n : ℕ). T (in_limits metric_limits n)) (sym (metric_is u)) fits

          go : (a b : Bool) → T b → (T ((not a || others) || false) → ⊥) → T ((not b || others) || false) → ⊥
          go true true h f t = f t
          go false true h f t = f tt
          go a false h f t = h

      replaced : (r : List ℕ) → Readable s half_link_layout r → Replaces r (with_metric_bits m (word r 0) ∷ drop 1 r)
      replaced r R = of_three (λ r. HasKind half_link_layout r → (T (outside_range half_link_layout.ranges r || false) → ⊥)
          → Replaces r (with_metric_bits m (word r 0) ∷ drop 1 r)) (λ u v w k f. record {
            kind = kind_kept u ∙ k;
            whole = refl;
            zero_bits = zeros_kept u;
            in_range = in_range_still u v w f;
            names = record { near = refl; far = refl; port = refl; link = refl };
          }) r R.whole R.kind (itself r R).in_range

  -- One record more

  -- What takes the place of the record's words leads to the edited plan with the record.
  abbrev Next : Reading → Layout → List ℕ → ℕ → ℕ → Type 0
  Next s l r at last = (at' : ℕ) × (last' : ℕ) × (last' ≤ l.kind) × Reads (edited s at last) (words_after_change c r) (edited (read_one s l r) at' last')

  -- The half-links of the edited plan with one half-link more.
  one_more_link : (hs : List HalfLink) (h : HalfLink) → flat_map (after_change c) (hs ++ (h ∷ [])) ≡ flat_map (after_change c) hs ++ after_change c h
  unfolding flat_map
  one_more_link hs h = flat_map_append (after_change c) hs (h ∷ []) ∙ ap (λ (ks : List HalfLink). flat_map (after_change c) hs ++ ks) (append-nil (after_change c h))

  -- The plan's other records do not matter.
  with_links : (p : Plan) (at last : ℕ) {ks ds : List HalfLink} → ks ≡ ds
      → ◌≡◌ {A = Reading}
      (record { at = at; last = last; plan = record { bridges = p.bridges; half_links = ks; vids = p.vids; members = p.members; traffic = p.traffic } })
      (record { at = at; last = last; plan = record { bridges = p.bridges; half_links = ds; vids = p.vids; members = p.members; traffic = p.traffic } })
  with_links p at last e = λ j. record { at = at; last = last; plan = record { bridges = p.bridges; half_links = e j; vids = p.vids; members = p.members; traffic = p.traffic } }

  half_link_next : MetricFits c.metric → (s : Reading) (r : List ℕ) (at last : ℕ) → last ≤ s.last → Readable s half_link_layout r
      → Next s half_link_layout r at last
  half_link_next F s r at last lower R = go (is_named c.name (half_link_of r)) refl c.metric refl F
    where
      replaced_by_lem : (b : Bool) (o : Option ℕ) → is_named c.name (half_link_of r) ≡ b → c.metric ≡ o
          → words_after_change c r ≡ cond b (words_replaced_by o r) (r ∷ [])
      replaced_by_lem b o e f = λ j. cond (eqb (R.kind j) 2 && e j) (words_replaced_by (f j) r) (r ∷ [])

      stood_by : (b : Bool) (o : Option ℕ) → is_named c.name (half_link_of r) ≡ b → c.metric ≡ o
          → flat_map (after_change c) (s.plan.half_links ++ (half_link_of r ∷ [])) ≡ flat_map (after_change c) s.plan.half_links ++ cond b (replaced_by o (half_link_of r)) (half_link_of r ∷ [])
      stood_by b o e f = one_more_link s.plan.half_links (half_link_of r)
          ∙ (λ j. flat_map (after_change c) s.plan.half_links ++ cond (e j) (replaced_by (f j) (half_link_of r)) (half_link_of r ∷ []))

      -- One record in its place.
      one : (k : List ℕ) → Replaces s at last lower r k → words_after_change c r ≡ k ∷ []
          → flat_map (after_change c) (s.plan.half_links ++ (half_link_of r ∷ [])) ≡ flat_map (after_change c) s.plan.half_links ++ (half_link_of k ∷ [])
          → Next s half_link_layout r at last
      one k P e f = (
        at + 3,
        2,
        omega arith,
        subst (λ (ks : List (List ℕ)). Reads (edited s at last) ks (edited (read_one s half_link_layout r) (at + 3) 2)) (sym e)
            (half_link_layout, half_link_stays s at last lower r k R P, with_links s.plan (at + 3) 2 (sym f)),
      )

      go : (b : Bool) → is_named c.name (half_link_of r) ≡ b → (o : Option ℕ) → c.metric ≡ o → MetricFits o → Next s half_link_layout r at last
      go false e o f F = one r (itself s at last lower r R) (replaced_by_lem false o e f) (stood_by false o e f)
      go true e none f F = (
        at,
        last,
        omega (arith, lower, not-ltb 2 s.last (no_fault (faults s half_link_layout r) R.faultless).0),
        subst (λ (ks : List (List ℕ)). Reads (edited s at last) ks (edited (read_one s half_link_layout r) at last)) (sym (replaced_by_lem true none e f))
            (with_links s.plan at last (sym (stood_by true none e f ∙ append-nil (flat_map (after_change c) s.plan.half_links)))),
      )
      go true e (some m) f F = one (with_metric_bits m (word r 0) ∷ drop 1 r) (replaced s at last lower m F r R) (replaced_by_lem true (some m) e f)
          (stood_by true (some m) e f ∙ ap (λ (h : HalfLink). flat_map (after_change c) s.plan.half_links ++ (h ∷ [])) (sym (replaced_record s at last lower m F r R.whole)))

  record_next : MetricFits c.metric → (s : Reading) (l : Layout) (r : List ℕ) (at last : ℕ) → last ≤ s.last → Readable s l r → Next s l r at last
  record_next F s l r at last lower R = go (same_or_not l.kind 2)
    where
      other : (l.kind ≡ 2 → ⊥) → words_after_change c r ≡ r ∷ []
      other o = ap (λ (b : Bool). cond (b && is_named c.name (half_link_of r)) (words_replaced_by c.metric r) (r ∷ []))
          (ap (λ (n : ℕ). eqb n 2) R.kind ∙ is_false (eqb l.kind 2) (λ t. o (eqb→eq l.kind 2 t)))

      go : (l.kind ≡ 2) ⊎ (l.kind ≡ 2 → ⊥) → Next s l r at last
      go (inl e) = subst (λ (l : Layout). Readable s l r → Next s l r at last) (sym (half_link-row l R.listed e)) (half_link_next F s r at last lower) R
      go (inr o) = let (S, e) = other-kind s at last lower r l R.listed o R in (
        at + l.words,
        l.kind,
        omega arith,
        subst (λ (ks : List (List ℕ)). Reads (edited s at last) ks (edited (read_one s l r) (at + l.words) l.kind)) (sym (other o)) (l, S, e),
      )

  -- All records, one after the other.
  pub records_next : MetricFits c.metric → (s : Reading) (rs : List (List ℕ)) (e : Reading) (at last : ℕ) → last ≤ s.last → Reads s rs e
      → (at' : ℕ) × (last' : ℕ) × Reads (edited s at last) (flat_map (words_after_change c) rs) (edited e at' last')
  unfolding flat_map
  records_next F s [] e at last lower f = (at, last, ap (λ (s : Reading). edited s at last) f)
  records_next F s (r ∷ rs) e at last lower (l, R, f) =
      let (at', last', lower', g) = record_next F s l r at last lower R
      in let (at'', last'', h) = records_next F (read_one s l r) rs e at' last' lower' f
      in (at'', last'', reads_append (edited s at last) (words_after_change c r) (flat_map (words_after_change c) rs) (edited (read_one s l r) at' last') (edited e at'' last'') g h)
