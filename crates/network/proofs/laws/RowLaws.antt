-- The hops of one bridge in the making: what the loops that gather them and that write their costs and ports keep true.
-- Assumes nothing.
use Rattle.std.specs.Prelude.{ℕ, ◌+◌, ◌-◌, ◌%◌, ◌≤◌, ◌<◌, min, ◌≡◌, refl, List, ◌⊎◌, length, get_or, set, replicate}
use Rattle.std.proofs.Common.{arith, sym, ap, ◌∙◌, subst, inl, inr, length-set, get_or-set_same, get_or-set_other}
use Rattle.std.proofs.lemmas.List.{length-replicate, get_or-replicate}
use Rattle.lists.proofs.laws.NumberLaws.{le_or_gt, same_or_not}
use Rattle.rule.specs.Words.{words_of}
use Rattle.rule.specs.Records.{HalfLink}
use Rattle.key_index.specs.Places.{last_place}
use Rattle.key_index.specs.Index.{holds, earlier_place}
use Rattle.table.specs.declared.shape.Shape.{Shape}
use Rattle.table.specs.Positions.{plan_at}
use Rattle.table.specs.Numbered.{half_link_number}
use Rattle.verdict.specs.Examination.{Checked}
use Rattle.links.specs.Hops.{no_hop, cost_of_hop, port_of_hop, hop_of, LowestHop}
use Rattle.links.proofs.laws.HopLaws.{nothing-offered, hop-passed, hop-elsewhere, hop-lowered, far-inside}
use Rattle.network.specs.Layout.{starts_at, neighbours_at, costs_at, ports_at, marks_at}
use Rattle.network.specs.Neighbours.{Kept}
use Rattle.network.specs.Rows.{NearIndex, OfBridge, Visited, Cleared, Taken, Offered, Gathering, HaveHops, HopsWritten}
use Rattle.network.proofs.laws.VisitLaws.{last-inside, last_of_bridge, none-later, earlier_of_bridge, visited-few, visited_so_far, visited_more}

-- What is kept

pub all-kept : (net : List ℕ) (from : ℕ) → Kept net net from
all-kept net from =
    record {
      same_length = refl;
      same_starts = λ w l. refl;
      same_hops = record { same_neighbours = λ k l. refl; same_costs = λ k l. refl; same_ports = λ k l. refl };
    }

pub kept_on : {before net net' : List ℕ} {from : ℕ} → Kept before net from → Kept net net' from → Kept before net' from
kept_on K M =
    record {
      same_length = M.same_length ∙ K.same_length;
      same_starts = λ w l. M.same_starts w l ∙ K.same_starts w l;
      same_hops = record {
        same_neighbours = λ k l. M.same_hops.same_neighbours k l ∙ K.same_hops.same_neighbours k l;
        same_costs = λ k l. M.same_hops.same_costs k l ∙ K.same_hops.same_costs k l;
        same_ports = λ k l. M.same_hops.same_ports k l ∙ K.same_hops.same_ports k l;
      };
    }

-- A word of the hops from the place `from` on is written: of their neighbours, costs or ports, each of which has 512 words.
kept_but : (net : List ℕ) (from base at x : ℕ) → base % 512 ≡ neighbours_at → base < starts_at → from ≤ at → at < 512 → Kept net (set net (base + at) x) from
kept_but net from base at x b c l h =
    record {
      same_length = length-set net (base + at) x;
      same_starts = λ w m. other (starts_at + w) (λ e. omega arith);
      same_hops = record {
        same_neighbours = λ k m. other (neighbours_at + k) (λ e. omega arith);
        same_costs = λ k m. other (costs_at + k) (λ e. omega arith);
        same_ports = λ k m. other (ports_at + k) (λ e. omega arith);
      };
    }
  where
    other : (i : ℕ) → (i ≡ base + at → ⊥) → get_or (set net (base + at) x) i 0 ≡ get_or net i 0
    other i d = get_or-set_other net (base + at) i x 0 d

-- Gathering

pub no_hops : Cleared (replicate 64 no_hop)
no_hops = record { size = length-replicate {A = ℕ} 64 no_hop; empty = λ v l. get_or-replicate {A = ℕ} 64 v no_hop 0 l }

-- The half-link `k` is offered: `x` is its hop, and `h` was read for it.
module _ (hs : List HalfLink) {k : HalfLink} {x : ℕ} (x_is : x ≡ hop_of hs k) where
  pub nothing-taken : {row net : List ℕ} {at : ℕ} → no_hop ≤ x → Offered hs k row row net net at at
  nothing-taken l = record { outcome = inr (omega (arith, x_is), refl, refl, refl) }

  hop-read : (h : HalfLink) → h ≡ k → x ≡ hop_of hs h
  hop-read h e = x_is ∙ ap (hop_of hs) (sym e)

  module _ (u : x < no_hop) {h : HalfLink} (e : h ≡ k) {row net : List ℕ} {y at : ℕ} (g : y ≡ min (get_or row h.far 0) x) where
    pub taken_again : get_or row h.far 0 < no_hop → Offered hs k row (set row h.far y) net net at at
    taken_again l =
        subst (λ (j : HalfLink). Offered hs j row (set row h.far y) net net at at) e
        (record {
          outcome = inl (record {
            usable = omega (arith, hop-read h e);
            row_is = ap (set row h.far) (g ∙ ap (min (get_or row h.far 0)) (hop-read h e));
            listing = inl (l, refl, refl);
          });
        })

    pub taken-first :
        no_hop ≤ get_or row h.far 0 → Offered hs k row (set row h.far y) net (set net (neighbours_at + at) h.far) at (at + 1)
    taken-first l =
        subst (λ (j : HalfLink). Offered hs j row (set row h.far y) net (set net (neighbours_at + at) h.far) at (at + 1)) e
        (record {
          outcome = inl (record {
            usable = omega (arith, hop-read h e);
            row_is = ap (set row h.far) (g ∙ ap (min (get_or row h.far 0)) (hop-read h e));
            listing = inr (l, refl, refl);
          });
        })

module _ {near t : List ℕ} {s : Shape} (K : NearIndex near t s) {u from : ℕ} {before row : List ℕ} where
  pub gathering_starts :
      Cleared row →
      Visited t s u s.half_links from →
      (place : ℕ) →
      place ≡ last_place (holds near u) s.half_links →
      Gathering t s u from before row before place from
  gathering_starts R W place e =
      record {
        within = last-inside K u s.half_links (omega arith) place e;
        next = last_of_bridge K u s.half_links (omega arith) place e;
        visited = visited_so_far W place (last-inside K u s.half_links (omega arith) place e);
        size = R.size;
        lowest = λ v l. subst (LowestHop (plan_at (words_of t) s).half_links (OfBridge t s u place) v) (sym (R.empty v l)) (nothing-offered none);
        in_order = omega arith;
        every = λ v l h. absurd (omega (arith, R.empty v l));
        only = λ k l h. absurd (omega arith);
        kept = all-kept before from;
      }
    where
      none : (h : HalfLink) → OfBridge t s u place h → ⊥
      none h (f, (i, l, m, g)) =
          none-later K u s.half_links (omega arith) place e i l m (sym (ap (λ (x : HalfLink). x.near) g) ∙ f)

  -- The half-link before the number `place` is offered.
  module _ {net : List ℕ} {place at : ℕ} (G : Gathering t s u from before row net place at) (some : 0 < place) where
    abbrev hs : List HalfLink
    hs = (plan_at (words_of t) s).half_links

    abbrev h : HalfLink
    h = half_link_number (words_of t) s (place - 1)

    pub gathering_room : s.half_links ≤ 512 → at < 512
    gathering_room l =
        omega (
          arith,
          visited-few (visited_more G.visited (place - 1) (omega arith) (place - 1) (at + 1) (omega arith) (omega arith) (omega (arith, G.within)) (G.next some) (omega arith)),
        )

    -- The place before is the next.
    module _ (place' : ℕ) (e : place' ≡ earlier_place near place) where
      last_before : place' ≡ last_place (holds near u) (place - 1)
      last_before = e ∙ earlier_of_bridge K u place some G.within (G.next some)

      before_this : place - 1 ≤ s.half_links
      before_this = omega (arith, G.within)

      lower : place' ≤ place - 1
      lower = last-inside K u (place - 1) before_this place' last_before

      pub gathering_less : place' < place
      gathering_less = omega (arith, lower)

      still : (g : HalfLink) → OfBridge t s u place g → OfBridge t s u place' g
      still g (f, (i, l, m, q)) = (f, (i, omega (arith, lower), m, q))

      also : OfBridge t s u place' h
      also = (G.next some, (place - 1, lower, omega (arith, G.within), refl))

      only : (g : HalfLink) → OfBridge t s u place' g → OfBridge t s u place g ⊎ (g ≡ h)
      only g (f, (i, l, m, q)) = go (le_or_gt place i) (same_or_not i (place - 1))
        where
          go : (place ≤ i) ⊎ (i < place) → (i ≡ place - 1) ⊎ (i ≡ place - 1 → ⊥) → OfBridge t s u place g ⊎ (g ≡ h)
          go (inl a) b = inl (f, (i, a, m, q))
          go (inr a) (inl b) = inr (q ∙ ap (half_link_number (words_of t) s) b)
          go (inr a) (inr b) =
              absurd (none-later K u (place - 1) before_this place' last_before i l (omega arith) (sym (ap (λ (x : HalfLink). x.near) q) ∙ f))

      -- The half-link has no hop.
      nothing_gathered : no_hop ≤ hop_of hs h → Gathering t s u from before row net place' at
      nothing_gathered l =
          record {
            within = omega (arith, lower, G.within);
            next = last_of_bridge K u (place - 1) before_this place' last_before;
            visited = visited_so_far G.visited place' (omega (arith, lower));
            size = G.size;
            lowest = λ v m. hop-passed (G.lowest v m) h still also only l;
            in_order = G.in_order;
            every = G.every;
            only = G.only;
            kept = G.kept;
          }

      module _ (C : Checked t s) (few : s.half_links ≤ 512) (long : marks_at ≤ length before) where
        far_in : h.far < 64
        far_in = far-inside C (place - 1) (omega (arith, G.within)) h refl

        -- Its hop is taken.
        module _ {row' net' : List ℕ} {at' : ℕ} (T : Taken hs h row row' net net' at at') where
          row_here : get_or row' h.far 0 ≡ min (get_or row h.far 0) (hop_of hs h)
          row_here =
              ap (λ (r : List ℕ). get_or r h.far 0) T.row_is
              ∙ get_or-set_same row h.far (min (get_or row h.far 0) (hop_of hs h)) 0 (omega (arith, G.size, far_in))

          row_other : (v : ℕ) → (v ≡ h.far → ⊥) → get_or row' v 0 ≡ get_or row v 0
          row_other v d =
              ap (λ (r : List ℕ). get_or r v 0) T.row_is
              ∙ get_or-set_other row h.far v (min (get_or row h.far 0) (hop_of hs h)) 0 d

          lowest_now : (v : ℕ) → v < 64 → (v ≡ h.far) ⊎ (v ≡ h.far → ⊥) → LowestHop hs (OfBridge t s u place') v (get_or row' v 0)
          lowest_now v l (inl q) =
              subst (λ (w : ℕ). LowestHop hs (OfBridge t s u place') w (get_or row' w 0)) (sym q)
              (subst (LowestHop hs (OfBridge t s u place') h.far) (sym row_here)
              (hop-lowered (G.lowest h.far far_in) h still also only refl))
          lowest_now v l (inr d) =
              subst (LowestHop hs (OfBridge t s u place') v) (sym (row_other v d))
              (hop-elsewhere (G.lowest v l) h still also only (λ q. d (sym q)))

          -- A hop that was there is still there.
          row_keeps : (v : ℕ) → get_or row v 0 < no_hop → get_or row' v 0 < no_hop
          row_keeps v l = go (same_or_not v h.far)
            where
              go : (v ≡ h.far) ⊎ (v ≡ h.far → ⊥) → get_or row' v 0 < no_hop
              go (inl q) = omega (arith, ap (λ (w : ℕ). get_or row' w 0) q, ap (λ (w : ℕ). get_or row w 0) q, row_here)
              go (inr d) = omega (arith, row_other v d)

          abbrev Listing : Type 0
          Listing =
              ((get_or row h.far 0 < no_hop) × (at' ≡ at) × (net' ≡ net))
              ⊎ ((no_hop ≤ get_or row h.far 0) × (at' ≡ at + 1) × (net' ≡ set net (neighbours_at + at) h.far))

          one_more_at_most : Listing → (at ≤ at') × (at' ≤ at + 1)
          one_more_at_most (inl (a, q, f)) = (omega arith, omega arith)
          one_more_at_most (inr (a, q, f)) = (omega arith, omega arith)

          -- What was listed is still listed.
          stays_listed : Listing → (k : ℕ) → k < at → get_or net' (neighbours_at + k) 0 ≡ get_or net (neighbours_at + k) 0
          stays_listed (inl (a, q, f)) k l = ap (λ (x : List ℕ). get_or x (neighbours_at + k) 0) f
          stays_listed (inr (a, q, f)) k l =
              ap (λ (x : List ℕ). get_or x (neighbours_at + k) 0) f
              ∙ get_or-set_other net (neighbours_at + at) (neighbours_at + k) h.far 0 (λ z. omega arith)

          listed_now : net' ≡ set net (neighbours_at + at) h.far → get_or net' (neighbours_at + at) 0 ≡ h.far
          listed_now f =
              ap (λ (x : List ℕ). get_or x (neighbours_at + at) 0) f
              ∙ get_or-set_same net (neighbours_at + at) h.far 0 (omega (arith, G.kept.same_length, gathering_room few))

          still_kept : Listing → Kept before net' from
          still_kept (inl (a, q, f)) = subst (λ (x : List ℕ). Kept before x from) (sym f) G.kept
          still_kept (inr (a, q, f)) =
              subst (λ (x : List ℕ). Kept before x from) (sym f)
              (kept_on G.kept (kept_but net from neighbours_at at h.far refl (omega arith) G.in_order (gathering_room few)))

          every_listed : Listing → (v : ℕ) → v < 64 → get_or row' v 0 < no_hop → (v ≡ h.far) ⊎ (v ≡ h.far → ⊥)
              → (k : ℕ) × (from ≤ k) × (k < at') × (get_or net' (neighbours_at + k) 0 ≡ v)
          every_listed o v l m d = go o d
            where
              -- A bridge that had a hop is listed as it was.
              was : get_or row v 0 < no_hop → (k : ℕ) × (from ≤ k) × (k < at') × (get_or net' (neighbours_at + k) 0 ≡ v)
              was c =
                  let (k, a, b, q) = G.every v l c
                  in (k, a, omega (arith, one_more_at_most o), stays_listed o k b ∙ q)

              go : Listing → (v ≡ h.far) ⊎ (v ≡ h.far → ⊥) → (k : ℕ) × (from ≤ k) × (k < at') × (get_or net' (neighbours_at + k) 0 ≡ v)
              go p (inr d) = was (omega (arith, row_other v d))
              go (inl (a, q, f)) (inl z) = was (omega (arith, ap (λ (w : ℕ). get_or row w 0) z))
              go (inr (a, q, f)) (inl z) = (at, G.in_order, omega arith, listed_now f ∙ sym z)

          only_hops : Listing → (k : ℕ) → from ≤ k → k < at' → (at ≤ k) ⊎ (k < at)
              → (get_or net' (neighbours_at + k) 0 < 64) × (get_or row' (get_or net' (neighbours_at + k) 0) 0 < no_hop)
          only_hops o k l m (inr c) =
              let (a, b) = G.only k l c
              in subst (λ (v : ℕ). (v < 64) × (get_or row' v 0 < no_hop)) (sym (stays_listed o k c)) (a, row_keeps (get_or net (neighbours_at + k) 0) b)
          only_hops (inl (a, q, f)) k l m (inl c) = absurd (omega arith)
          only_hops (inr (a, q, f)) k l m (inl c) =
              let z : k ≡ at = omega arith
              in subst (λ (v : ℕ). (v < 64) × (get_or row' v 0 < no_hop))
              (sym (ap (λ (j : ℕ). get_or net' (neighbours_at + j) 0) z ∙ listed_now f)) (far_in, omega (arith, row_here, T.usable))

          hop_gathered : Gathering t s u from before row' net' place' at'
          hop_gathered =
              record {
                within = omega (arith, lower, G.within);
                next = last_of_bridge K u (place - 1) before_this place' last_before;
                visited =
                    visited_more G.visited place' (omega (arith, lower)) (place - 1) at' lower (omega arith) (omega (arith, G.within))
                    (G.next some) (one_more_at_most T.listing).1;
                size = ap length T.row_is ∙ length-set row h.far (min (get_or row h.far 0) (hop_of hs h)) ∙ G.size;
                lowest = λ v l. lowest_now v l (same_or_not v h.far);
                in_order = omega (arith, one_more_at_most T.listing, G.in_order);
                every = λ v l m. every_listed T.listing v l m (same_or_not v h.far);
                only = λ k l m. only_hops T.listing k l m (le_or_gt at k);
                kept = still_kept T.listing;
              }

        pub gathering_goes_on : {row' net' : List ℕ} {at' : ℕ} → Offered hs h row row' net net' at at' → Gathering t s u from before row' net' place' at'
        gathering_goes_on {row'} {net'} {at'} O = go O.outcome
          where
            go : Taken hs h row row' net net' at at' ⊎ ((no_hop ≤ hop_of hs h) × (row' ≡ row) × (net' ≡ net) × (at' ≡ at)) → Gathering t s u from before row' net' place' at'
            go (inl T) = hop_gathered T
            go (inr (l, a, b, c)) = rw (a, b, c) (nothing_gathered l)

pub gathering_ends :
    {t : List ℕ} {s : Shape} {u from : ℕ} {before row net : List ℕ} {place at : ℕ} →
    Gathering t s u from before row net place at →
    place ≤ 0 →
    Gathering t s u from before row net 0 at
gathering_ends {t} {s} {u} {from} {before} {row} {net} {place} {at} G l =
    subst (λ (k : ℕ). Gathering t s u from before row net k at) (omega arith) G

-- Writing

pub writing-starts : (row net : List ℕ) (from : ℕ) → HopsWritten row net net from from
writing-starts row net from =
    record {
      in_order = omega arith;
      cost_is = λ j l h. absurd (omega arith);
      port_is = λ j l h. absurd (omega arith);
      all_neighbours = λ j l. refl;
      kept = all-kept net from;
    }

module _ {row before net : List ℕ} {from k : ℕ} (H : HopsWritten row before net from k) (l : k < 512) (long : marks_at ≤ length before) where
  abbrev hop : ℕ
  hop = get_or row (get_or net (neighbours_at + k) 0) 0

  pub hop-there : {to : ℕ} → HaveHops row before from to → k < to → (get_or net (neighbours_at + k) 0 < 64) × (hop < 4503599627370496)
  hop-there B h =
      let e : get_or net (neighbours_at + k) 0 ≡ get_or before (neighbours_at + k) 0 = H.all_neighbours k l
      in rw e (B.in_row k H.in_order h, B.fits k H.in_order h)

  module _ (cost port : ℕ) (c : cost ≡ cost_of_hop hop) (p : port ≡ port_of_hop hop) where
    abbrev costed : List ℕ
    costed = set net (costs_at + k) cost

    abbrev ported : List ℕ
    ported = set costed (ports_at + k) port

    costed-length : length costed ≡ length net
    costed-length = length-set net (costs_at + k) cost

    other : (i : ℕ) → (i ≡ costs_at + k → ⊥) → (i ≡ ports_at + k → ⊥) → get_or ported i 0 ≡ get_or net i 0
    other i a b = get_or-set_other costed (ports_at + k) i port 0 b ∙ get_or-set_other net (costs_at + k) i cost 0 a

    hop_is : hop ≡ get_or row (get_or before (neighbours_at + k) 0) 0
    hop_is = ap (λ (v : ℕ). get_or row v 0) (H.all_neighbours k l)

    pub writing_goes_on : HopsWritten row before ported from (k + 1)
    writing_goes_on =
        record {
          in_order = omega (arith, H.in_order);
          cost_is = λ j m h. costs j m (same_or_not j k) h;
          port_is = λ j m h. ports j m (same_or_not j k) h;
          all_neighbours = λ j m. other (neighbours_at + j) (λ e. omega arith) (λ e. omega arith) ∙ H.all_neighbours j m;
          kept =
              kept_on H.kept
              (kept_on (kept_but net from costs_at k cost refl (omega arith) H.in_order l)
              (kept_but costed from ports_at k port refl (omega arith) H.in_order l));
        }
      where
        costs : (j : ℕ) → from ≤ j → (j ≡ k) ⊎ (j ≡ k → ⊥) → j < k + 1 → get_or ported (costs_at + j) 0 ≡ cost_of_hop (get_or row (get_or before (neighbours_at + j) 0) 0)
        costs j m (inl e) h =
            rw e (get_or-set_other costed (ports_at + k) (costs_at + k) port 0 (λ q. omega arith)
            ∙ get_or-set_same net (costs_at + k) cost 0 (omega (arith, H.kept.same_length)) ∙ c ∙ ap cost_of_hop hop_is)
        costs j m (inr d) h = other (costs_at + j) (λ e. d (omega arith)) (λ e. omega arith) ∙ H.cost_is j m (omega arith)

        ports : (j : ℕ) → from ≤ j → (j ≡ k) ⊎ (j ≡ k → ⊥) → j < k + 1 → get_or ported (ports_at + j) 0 ≡ port_of_hop (get_or row (get_or before (neighbours_at + j) 0) 0)
        ports j m (inl e) h = rw e (get_or-set_same costed (ports_at + k) port 0 (omega (arith, costed-length, H.kept.same_length)) ∙ p ∙ ap port_of_hop hop_is)
        ports j m (inr d) h = other (ports_at + j) (λ e. omega arith) (λ e. d (omega arith)) ∙ H.port_is j m (omega arith)

pub writing-ends : {row before net : List ℕ} {from k to : ℕ} → HopsWritten row before net from k → k ≤ to → to ≤ k → HopsWritten row before net from to
writing-ends {row} {before} {net} {from} H l h = subst (HopsWritten row before net from) (omega arith) H
