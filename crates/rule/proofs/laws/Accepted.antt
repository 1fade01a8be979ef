-- An accepted table's plan meets PlanLaws: each record taken into the plan keeps them, because no fault applies to it.
-- Assumes nothing.
use Prim.Native.Nat.{ℕ, zero, suc, ◌+◌, ◌≤◌, ◌<◌}
use Rattle.std.proofs.Common.{arith, sym, subst, inl, inr, le→leb, leb→le, eqb→eq, lt→ltb, ltb→lt, length-append}
use Rattle.std.specs.Prelude.{◌≡◌, List, [], ◌∷◌, ◌++◌, ◌⊎◌, Bool, not, ◌&&◌, ◌||◌, T, leb, eqb, ltb, length, drop}
use Rattle.std.proofs.Math.Path.{refl}
use Rattle.std.proofs.Math.Option.{Option, none, some}
use Rattle.std.proofs.Math.Bool.{true, false, cond}
use Rattle.lists.specs.Lists.{selected}
use Rattle.lists.specs.Members.{In}
use Rattle.lists.proofs.laws.NumberLaws.{le_or_gt, first_of, last_of, equal-two, two-equal, equal-three, either_left, either_right, passes, eq_eqb}
use Rattle.lists.proofs.laws.MemberLaws.{in_append, in_left, none-not-some}
use Rattle.lists.proofs.laws.SelectedLaws.{selected-in, in-selected, any-in, in-any}
use Rattle.lists.proofs.laws.DistinctLaws.{every-two-end, first-in}
use Rattle.rule.specs.Words.{words_of, bits}
use Rattle.rule.specs.Records.{Bridge, HalfLink, Vid, Member, Traffic, bridge, half_link, vid, member, traffic, address, end_count}
use Rattle.rule.specs.Records.{Layout, Range, in_limits, field_at, bridge_of, half_link_of, vid_of, member_of, traffic_of, layouts, layout_of, bridge_layout, half_link_layout, vid_layout, member_layout, traffic_layout}
use Rattle.rule.specs.Outcome.{Outcome, answered, refused, refused_as}
use Rattle.rule.specs.Plan.{Plan, no_records, with_record, alike, known_bridge, known_vid}
use Rattle.rule.specs.Check.{bad_length, outside_range, wrong_end_count, unknown_ends, unknown_name, repeated, wrong_half, wrong_link, Reading, start, Fault, faults, lowest_fault, taken, judged, read_as, read_from, after, read_on, verdict}
use Rattle.rule.specs.PlanLaws.{BridgesApart, PortsApart, VidsApart, MembersApart, TrafficApart, Mirrors, BridgeFits, HalfLinkFits, VidFits, MemberFits, TrafficFits, HalfLinkLaws, MemberLaws, TrafficLaws, PlanLaws}

-- No fault applies

abbrev pub NoFault : List Fault → Type 0
NoFault [] = Unit {0}
NoFault (f ∷ fs) = (T f.applies → ⊥) × NoFault fs

pub no_fault : (fs : List Fault) → lowest_fault fs ≡ none → NoFault fs
unfolding lowest_fault
no_fault [] e = tt
no_fault (f ∷ fs) e = go f.applies (λ h. h) e (no_fault fs)
  where
    go : (b : Bool) → (T f.applies → T b) → cond b (some f.number) (lowest_fault fs) ≡ none → (lowest_fault fs ≡ none → NoFault fs)
        → NoFault (f ∷ fs)
    go true h e ih = absurd (none-not-some (sym e))
    go false h e ih = (h, ih e)

-- Every value is within its range.
abbrev InRanges : List Range → List ℕ → Type 0
InRanges [] r = Unit {0}
InRanges (g ∷ gs) r = ((g.limits.least ≤ g.value r) × (g.value r ≤ g.limits.greatest)) × InRanges gs r

in-ranges : (gs : List Range) (r : List ℕ) → ((g : Range) → In g gs → T (not (in_limits g.limits (g.value r))) → ⊥) → InRanges gs r
in-ranges [] r f = tt
in-ranges (g ∷ gs) r f = let h = passes (in_limits g.limits (g.value r)) (f g (inl refl)) in (
  (
    leb→le g.limits.least (g.value r) (first_of (leb g.limits.least (g.value r)) (leb (g.value r) g.limits.greatest) h),
    leb→le (g.value r) g.limits.greatest (last_of (leb g.limits.least (g.value r)) (leb (g.value r) g.limits.greatest) h),
  ),
  in-ranges gs r (λ g k. f g (inr k)),
)

not_outside : (gs : List Range) (r : List ℕ) (wrong : Bool) → (T (outside_range gs r || wrong) → ⊥) → InRanges gs r
not_outside gs r wrong f = in-ranges gs r
    (λ g k h. f (either_left (outside_range gs r) wrong (in-any (λ g. not (in_limits g.limits (g.value r))) g gs k h)))

not-leb : (m n : ℕ) → (T (leb m n) → ⊥) → n < m
not-leb m n f = go (le_or_gt m n)
  where
    go : (m ≤ n) ⊎ (n < m) → n < m
    go (inl h) = absurd (f (le→leb m n h))
    go (inr h) = h

pub not-ltb : (m n : ℕ) → (T (ltb m n) → ⊥) → n ≤ m
not-ltb m n f = go (le_or_gt n m)
  where
    go : (n ≤ m) ⊎ (m < n) → n ≤ m
    go (inl h) = h
    go (inr h) = absurd (f (lt→ltb m n h))

is_known : (m n : ℕ) → (T (not (ltb m n)) → ⊥) → m < n
is_known m n f = ltb→lt m n (passes (ltb m n) f)

-- A record more

module _ {A : Type 0} where
  -- What holds of each of a list and of one more holds of each of the longer list.
  each-end : (P : A → Type 0) (xs : List A) (a : A) → ((x : A) → In x xs → P x) → P a → (x : A) → In x (xs ++ (a ∷ [])) → P x
  each-end P xs a f h x k = go (in_append x xs (a ∷ []) k)
    where
      go : In x xs ⊎ In x (a ∷ []) → P x
      go (inl k) = f x k
      go (inr (inl e)) = rw e h
      go (inr (inr k)) = absurd k

  longer : (xs : List A) (a : A) → length (xs ++ (a ∷ [])) ≡ suc (length xs)
  longer xs a = omega (arith, length-append xs (a ∷ []))

-- More bridges and VIDs leave half-links, members and traffic as they were.
half_links-still : (n k : ℕ) (hs : List HalfLink) → n ≤ k → HalfLinkLaws n hs → HalfLinkLaws k hs
half_links-still n k hs l H = record { apart = H.apart; mirrored = H.mirrored; fits = λ h i. still h (H.fits h i) }
  where
    still : (h : HalfLink) → HalfLinkFits n h → HalfLinkFits k h
    still h F = record {
      metric = F.metric;
      least_port = F.least_port;
      greatest_port = F.greatest_port;
      near_known = omega arith;
      far_known = omega arith;
      apart = F.apart;
    }

members-still : (n k : ℕ) (vs ws : List Vid) (ms : List Member) → n ≤ k → ((v : Vid) → In v vs → In v ws) → MemberLaws n vs ms
    → MemberLaws k ws ms
members-still n k vs ws ms l f M = record { few = M.few; apart = M.apart; fits = λ m i. still m (M.fits m i) }
  where
    still : (m : Member) → MemberFits n vs m → MemberFits k ws m
    still m F = let (v, i, e) = F.vid_known in record { least_isid = F.least_isid; isid = F.isid; bridge_known = omega arith; vid_known = (v, f v i, e) }

traffic-still : (n k : ℕ) (vs ws : List Vid) (ts : List Traffic) → n ≤ k → ((v : Vid) → In v vs → In v ws) → TrafficLaws n vs ts
    → TrafficLaws k ws ts
traffic-still n k vs ws ts l f L = record { few = L.few; apart = L.apart; fits = λ t i. still t (L.fits t i) }
  where
    still : (t : Traffic) → TrafficFits n vs t → TrafficFits k ws t
    still t F = let (v, i, e) = F.vid_known in record {
      least_amount = F.least_amount;
      greatest_amount = F.greatest_amount;
      from_known = omega arith;
      to_known = omega arith;
      apart = F.apart;
      vid_known = (v, f v i, e);
    }

module _ (p : Plan) (L : PlanLaws p) where
  with_bridge_lem : (b : Bridge) → length p.bridges < 64 → BridgeFits b → (T (repeated p (bridge b)) → ⊥)
      → PlanLaws (with_record p (bridge b))
  with_bridge_lem b l s f = record {
    bridges = record {
      few = omega (arith, longer p.bridges b);
      apart = every-two-end BridgesApart p.bridges b L.bridges.apart apart;
      fits = each-end BridgeFits p.bridges b L.bridges.fits s;
    };
    half_links = half_links-still (length p.bridges) (length (p.bridges ++ (b ∷ []))) p.half_links more L.half_links;
    vids = L.vids;
    members = members-still (length p.bridges) (length (p.bridges ++ (b ∷ []))) p.vids p.vids p.members more (λ v k. k)
        L.members;
    traffic = traffic-still (length p.bridges) (length (p.bridges ++ (b ∷ []))) p.vids p.vids p.traffic more (λ v k. k)
        L.traffic;
  }
    where
      more : length p.bridges ≤ length (p.bridges ++ (b ∷ []))
      more = omega (arith, longer p.bridges b)

      same : Bridge → Bool
      same e = eqb (address e) (address b) || eqb e.sp_source_id b.sp_source_id

      apart : (e : Bridge) → In e p.bridges → BridgesApart e b
      apart e k = record {
        addresses = λ i. f (in-any same e p.bridges k
            (either_left (eqb (address e) (address b)) (eqb e.sp_source_id b.sp_source_id) (eq_eqb (address e) (address b) i)));
        sources = λ i. f (in-any same e p.bridges k
            (either_right (eqb (address e) (address b)) (eqb e.sp_source_id b.sp_source_id) (eq_eqb e.sp_source_id b.sp_source_id i)));
      }

  -- A second half-link of a link number mirrors the first; a third is refused.
  mirrors : (h : HalfLink) → (T (wrong_link p (half_link h)) → ⊥) → (e : HalfLink) → In e p.half_links → Mirrors e h
  mirrors h f e k i = go (selected (λ e. eqb e.link h.link) p.half_links) f
      (in-selected (λ e. eqb e.link h.link) e p.half_links k (eq_eqb e.link h.link i))
    where
      mirror : (e' : HalfLink) → e ≡ e' → T (eqb h.near e'.far && eqb h.far e'.near) → (h.near ≡ e.far) × (h.far ≡ e.near)
      mirror e' i t = rw i (two-equal h.near e'.far h.far e'.near t)

      go : (es : List HalfLink) → (T (wrong_half h es) → ⊥) → In e es → (h.near ≡ e.far) × (h.far ≡ e.near)
      go [] f k = elim k [ ]
      go (e' ∷ []) f (inl i) = mirror e' i (passes (eqb h.near e'.far && eqb h.far e'.near) f)
      go (e' ∷ []) f (inr k) = absurd k
      go (e' ∷ f' ∷ es) f k = absurd (f tt)

  with_half_link_lem : (h : HalfLink) → HalfLinkFits (length p.bridges) h → (T (repeated p (half_link h)) → ⊥) → (T (wrong_link p (half_link h)) → ⊥)
      → PlanLaws (with_record p (half_link h))
  with_half_link_lem h s f w = record {
    bridges = L.bridges;
    half_links = record {
      apart = every-two-end PortsApart p.half_links h L.half_links.apart apart;
      mirrored = every-two-end Mirrors p.half_links h L.half_links.mirrored (mirrors h w);
      fits = each-end (HalfLinkFits (length p.bridges)) p.half_links h L.half_links.fits s;
    };
    vids = L.vids;
    members = L.members;
    traffic = L.traffic;
  }
    where
      apart : (e : HalfLink) → In e p.half_links → PortsApart e h
      apart e k i j = f (in-any (λ e. eqb e.near h.near && eqb e.port h.port) e p.half_links k
          (equal-two e.near h.near e.port h.port i j))

  with_vid_lem : (v : Vid) → length p.vids < 16 → VidFits v → (T (repeated p (vid v)) → ⊥) → PlanLaws (with_record p (vid v))
  with_vid_lem v l s f = record {
    bridges = L.bridges;
    half_links = L.half_links;
    vids = record {
      few = omega (arith, longer p.vids v);
      apart = every-two-end VidsApart p.vids v L.vids.apart apart;
      fits = each-end VidFits p.vids v L.vids.fits s;
    };
    members = members-still (length p.bridges) (length p.bridges) p.vids (p.vids ++ (v ∷ [])) p.members (omega arith)
        (λ w k. in_left w p.vids (v ∷ []) k) L.members;
    traffic = traffic-still (length p.bridges) (length p.bridges) p.vids (p.vids ++ (v ∷ [])) p.traffic (omega arith)
        (λ w k. in_left w p.vids (v ∷ []) k) L.traffic;
  }
    where
      apart : (e : Vid) → In e p.vids → VidsApart e v
      apart e k i = f (in-any (λ e. eqb e.vid v.vid) e p.vids k (eq_eqb e.vid v.vid i))

  with_member_lem : (m : Member) → length p.members < 64 → MemberFits (length p.bridges) p.vids m → (T (repeated p (member m)) → ⊥)
      → PlanLaws (with_record p (member m))
  with_member_lem m l s f = record {
    bridges = L.bridges;
    half_links = L.half_links;
    vids = L.vids;
    members = record {
      few = omega (arith, longer p.members m);
      apart = every-two-end MembersApart p.members m L.members.apart apart;
      fits = each-end (MemberFits (length p.bridges) p.vids) p.members m L.members.fits s;
    };
    traffic = L.traffic;
  }
    where
      apart : (e : Member) → In e p.members → MembersApart e m
      apart e k i j n = f (in-any (λ e. eqb e.bridge m.bridge && eqb e.isid m.isid && eqb e.vid m.vid) e p.members k
          (equal-three e.bridge m.bridge e.isid m.isid e.vid m.vid i j n))

  with_traffic_lem : (t : Traffic) → length p.traffic < 256 → TrafficFits (length p.bridges) p.vids t → (T (repeated p (traffic t)) → ⊥)
      → PlanLaws (with_record p (traffic t))
  with_traffic_lem t l s f = record {
    bridges = L.bridges;
    half_links = L.half_links;
    vids = L.vids;
    members = L.members;
    traffic = record {
      few = omega (arith, longer p.traffic t);
      apart = every-two-end TrafficApart p.traffic t L.traffic.apart apart;
      fits = each-end (TrafficFits (length p.bridges) p.vids) p.traffic t L.traffic.fits s;
    };
  }
    where
      apart : (e : Traffic) → In e p.traffic → TrafficApart e t
      apart e k i j n = f (in-any (λ e. eqb e.vid t.vid && eqb e.from t.from && eqb e.to t.to) e p.traffic k
          (equal-three e.vid t.vid e.from t.from e.to t.to i j n))

-- A record without a fault keeps the laws

-- What the faults of a record rule out, where none applies.
record Faultless (s : Reading) (l : Layout) (r : List ℕ) : Type 0 where
  room : alike s.plan (l.decoded r) < l.limit
  in_range : InRanges l.ranges r
  known : T (unknown_name s.plan (l.decoded r)) → ⊥
  new : T (repeated s.plan (l.decoded r)) → ⊥
  linked : T (wrong_link s.plan (l.decoded r)) → ⊥

faultless : (s : Reading) (l : Layout) (r : List ℕ) → lowest_fault (faults s l r) ≡ none → Faultless s l r
faultless s l r e = go (no_fault (faults s l r) e)
  where
    go : NoFault (faults s l r) → Faultless s l r
    go (kind, (whole, (zero_bits, (limit, (range, (name, (repeat, (link, rest)))))))) = record {
      room = not-leb l.limit (alike s.plan (l.decoded r)) limit;
      in_range = not_outside l.ranges r (wrong_end_count s.at (end_count (l.decoded r))) range;
      known = name;
      new = repeat;
      linked = link;
    }

abbrev Keeps : Reading → List ℕ → Layout → Type 0
Keeps s r l = Faultless s l r → PlanLaws s.plan → PlanLaws (with_record s.plan (l.decoded r))

keeps_bridge : (s : Reading) (r : List ℕ) → Keeps s r bridge_layout
keeps_bridge s r F L = with_bridge_lem s.plan L (bridge_of r) F.room fits F.new
  where
    fits : BridgeFits (bridge_of r)
    fits = record { greatest_source = F.in_range.0.1; individual = omega (arith, F.in_range.1.1.0.1) }

-- 7 does not apply: two bridges are known and differ, and a VID is known.
record EndsKnown (p : Plan) (a b : ℕ) : Type 0 where
  first : a < length p.bridges
  second : b < length p.bridges
  differ : a ≡ b → ⊥

ends-known : (p : Plan) (a b : ℕ) → (T (unknown_ends p a b) → ⊥) → EndsKnown p a b
ends-known p a b f = record {
  first = is_known a n (λ k. f (either_left (no_a || no_b) equal (either_left no_a no_b k)));
  second = is_known b n (λ k. f (either_left (no_a || no_b) equal (either_right no_a no_b k)));
  differ = λ e. f (either_right (no_a || no_b) equal (eq_eqb a b e));
}
  where
    n : ℕ
    n = length p.bridges

    no_a : Bool
    no_a = not (ltb a n)

    no_b : Bool
    no_b = not (ltb b n)

    equal : Bool
    equal = eqb a b

vid-there : (p : Plan) (n : ℕ) → (T (not (known_vid p n)) → ⊥) → (v : Vid) × In v p.vids × (v.vid ≡ n)
vid-there p n f =
    let (v, k, e) = any-in (λ v. eqb v.vid n) p.vids (passes (known_vid p n) f)
    in (v, k, eqb→eq v.vid n e)

keeps_half_link : (s : Reading) (r : List ℕ) → Keeps s r half_link_layout
keeps_half_link s r F L = with_half_link_lem s.plan L (half_link_of r)
    (fits (half_link_of r) F.in_range.0.0 F.in_range.1.0.0 F.in_range.1.0.1 F.known) F.new F.linked
  where
    fits : (h : HalfLink) → 1 ≤ h.metric → 1 ≤ h.port → h.port ≤ 4095 → (T (unknown_name s.plan (half_link h)) → ⊥)
        → HalfLinkFits (length s.plan.bridges) h
    fits h m l g f = let K = ends-known s.plan h.near h.far f in record {
      metric = m;
      least_port = l;
      greatest_port = g;
      near_known = K.first;
      far_known = K.second;
      apart = K.differ;
    }

keeps_vid : (s : Reading) (r : List ℕ) → Keeps s r vid_layout
keeps_vid s r F L = with_vid_lem s.plan L (vid_of r) F.room fits F.new
  where
    fits : VidFits (vid_of r)
    fits = record {
      least = F.in_range.0.0;
      greatest = F.in_range.0.1;
      least_index = F.in_range.1.0.0;
      greatest_index = F.in_range.1.0.1;
    }

keeps_member : (s : Reading) (r : List ℕ) → Keeps s r member_layout
keeps_member s r F L = with_member_lem s.plan L (member_of r) F.room (fits (member_of r) F.in_range.0.0 F.in_range.0.1 F.known) F.new
  where
    fits : (m : Member) → 256 ≤ m.isid → m.isid ≤ 16777214 → (T (unknown_name s.plan (member m)) → ⊥)
        → MemberFits (length s.plan.bridges) s.plan.vids m
    fits m l i f = record {
      least_isid = l;
      isid = i;
      bridge_known = is_known m.bridge (length s.plan.bridges) (λ k. f (either_left no_bridge_lem no_vid_lem k));
      vid_known = vid-there s.plan m.vid (λ k. f (either_right no_bridge_lem no_vid_lem k));
    }
      where
        no_bridge_lem : Bool
        no_bridge_lem = not (known_bridge s.plan m.bridge)

        no_vid_lem : Bool
        no_vid_lem = not (known_vid s.plan m.vid)

keeps_traffic : (s : Reading) (r : List ℕ) → Keeps s r traffic_layout
keeps_traffic s r F L =
    with_traffic_lem s.plan L (traffic_of r) F.room (fits (traffic_of r) F.in_range.1.0.0 F.in_range.1.0.1 F.known) F.new
  where
    fits : (t : Traffic) → 1 ≤ t.amount → t.amount ≤ 65535 → (T (unknown_name s.plan (traffic t)) → ⊥)
        → TrafficFits (length s.plan.bridges) s.plan.vids t
    fits t l g f = let K = ends-known s.plan t.from t.to (λ k. f (either_left ends no_vid_lem k)) in record {
      least_amount = l;
      greatest_amount = g;
      from_known = K.first;
      to_known = K.second;
      apart = K.differ;
      vid_known = vid-there s.plan t.vid (λ k. f (either_right ends no_vid_lem k));
    }
      where
        ends : Bool
        ends = unknown_ends s.plan t.from t.to

        no_vid_lem : Bool
        no_vid_lem = not (known_vid s.plan t.vid)

-- Whatever row of the table of record kinds it has.
kept : (s : Reading) (r : List ℕ) (l : Layout) → In l layouts → Keeps s r l
kept s r l (inl e) = rw e (keeps_bridge s r)
kept s r l (inr (inl e)) = rw e (keeps_half_link s r)
kept s r l (inr (inr (inl e))) = rw e (keeps_vid s r)
kept s r l (inr (inr (inr (inl e)))) = rw e (keeps_member s r)
kept s r l (inr (inr (inr (inr (inl e))))) = rw e (keeps_traffic s r)
kept s r l (inr (inr (inr (inr (inr (inl e)))))) = rw e (λ F L. L)
kept s r l (inr (inr (inr (inr (inr (inr k)))))) = absurd k

pub row_listed : (k : ℕ) (l : Layout) → layout_of k ≡ some l → In l layouts
unfolding layout_of
row_listed k l e = (selected-in (λ l. eqb k l.kind) l layouts (first-in (selected (λ l. eqb k l.kind) layouts) l e)).0

not-answered : {number : ℕ} {kind : Option ℕ} {at : ℕ} {p : Plan} → refused number kind at ≡ answered p → ⊥
not-answered {number} {kind} {at} {p} e = let z : ◌≡◌ {A = ℕ} 0 1 = cc in omega arith

-- "A record's first word holds its kind in bits 31..28."
abbrev pub HasKind : Layout → List ℕ → Type 0
HasKind l r = field_at 0 31 28 r ≡ l.kind

pub row-kind : (k : ℕ) (l : Layout) → layout_of k ≡ some l → k ≡ l.kind
unfolding layout_of
row-kind k l e = eqb→eq k l.kind (selected-in (λ l. eqb k l.kind) l layouts (first-in (selected (λ l. eqb k l.kind) layouts) l e)).1

-- A reading with one record more.
abbrev pub read_one : Reading → Layout → List ℕ → Reading
read_one s l r = record { at = s.at + l.words; last = l.kind; plan = with_record s.plan (l.decoded r) }

-- What holds where the reading of the words `ws` stands, and still holds after each record without a fault, holds where the end record is
-- read.
module _ (ws : List ℕ) (Holds : Reading → Type 0)
    (keeps :
    (s : Reading) (l : Layout) →
    In l layouts →
    HasKind l (drop s.at ws) →
    lowest_fault (faults s l (drop s.at ws)) ≡ none →
    Holds s →
    Holds (read_one s l (drop s.at ws))) where
  abbrev Ends : Plan → Type 0
  Ends p = (s : Reading) × Holds s × (s.plan ≡ p)

  module _ (p : Plan) (next : Reading → Outcome Plan) (on : (s : Reading) → Holds s → next s ≡ answered p → Ends p) (s : Reading) (H : Holds s) where
    taken-ends : (l : Layout) (r : List ℕ) (c : Option ℕ) → Holds (read_one s l r) → after next (taken s l (l.decoded r) c) ≡ answered p → Ends p
    taken-ends l r none K h = on (read_one s l r) K h
    taken-ends l r (some c) K h = (s, H, cc)

    judged-ends : (l : Layout) (r : List ℕ) (f : Option ℕ) → (f ≡ none → Holds (read_one s l r)) → after next (judged s l r f) ≡ answered p → Ends p
    judged-ends l r none K h = taken-ends l r (end_count (l.decoded r)) (K refl) h
    judged-ends l r (some f) K h = absurd (not-answered h)

    row_ends : (r : List ℕ) (o : Option Layout) → ((l : Layout) → o ≡ some l → In l layouts × HasKind l r) → r ≡ drop s.at ws
        → after next (read_as s r o) ≡ answered p → Ends p
    row_ends r none i e h = absurd (not-answered h)
    row_ends r (some l) i e h =
        judged-ends l r (lowest_fault (faults s l r)) (λ f. rw e (keeps s l (i l refl).0 (rw e at (i l refl).1) (rw e at f) H)) h

    step-ends : (total : ℕ) (r : List ℕ) → r ≡ drop s.at ws → after next (read_from total s r) ≡ answered p → Ends p
    step-ends total [] e h = absurd (not-answered h)
    step-ends total (w ∷ r) e h =
        row_ends (w ∷ r) (layout_of (bits w 31 28)) (λ l k. (row_listed (bits w 31 28) l k, row-kind (bits w 31 28) l k)) e h

  reading-ends : (p : Plan) (n : ℕ) (s : Reading) → Holds s → read_on n ws s ≡ answered p → Ends p
  unfolding read_on
  reading-ends p zero s H e = absurd (not-answered e)
  reading-ends p (suc n) s H e = step-ends p (read_on n ws) (reading-ends p n) s H (length ws) (drop s.at ws) refl e

  pub accepted-ends : (t : List ℕ) (p : Plan) → ws ≡ words_of t → Holds start → verdict t ≡ answered p → Ends p
  unfolding verdict
  accepted-ends t p f H e = go (bad_length (length t)) e
    where
      go : (b : Bool) → cond b (refused_as 1) (read_on (length (words_of t)) (words_of t) start) ≡ answered p → Ends p
      go true e = absurd (not-answered e)
      go false e = reading-ends p (length ws) start H (rw f e)

-- The plan of no records meets them.
no_records_lem : PlanLaws no_records
no_records_lem = record {
  bridges = record { few = omega arith; apart = tt; fits = λ b k. absurd k };
  half_links = record { apart = tt; mirrored = tt; fits = λ h k. absurd k };
  vids = record { few = omega arith; apart = tt; fits = λ v k. absurd k };
  members = record { few = omega arith; apart = tt; fits = λ m k. absurd k };
  traffic = record { few = omega arith; apart = tt; fits = λ t k. absurd k };
}

-- "every accepted table" (demand 3): its plan meets the laws.
pub accepted-laws : (t : List ℕ) (p : Plan) → verdict t ≡ answered p → PlanLaws p
accepted-laws t p e =
    let (s, L, f) = accepted-ends (words_of t) (λ s. PlanLaws s.plan) (λ s l k h n L. kept s (drop s.at (words_of t)) l k (faultless s l (drop s.at (words_of t)) n) L)
    t p refl no_records_lem e
    in subst PlanLaws f L
