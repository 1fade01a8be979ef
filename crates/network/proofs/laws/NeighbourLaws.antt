-- The hops of a checked table are those of its plan: each bridge joined to another, with the cost and the near port of the link that the
-- hop takes. Assumes nothing.
use Rattle.std.specs.Prelude.{ℕ, ◌+◌, ◌≤◌, ◌<◌, ◌≡◌, refl, List, ◌⊎◌, length, get_or, set}
use Rattle.std.proofs.Common.{arith, sym, ap, ◌∙◌, inl, inr, length-set, get_or-set_same, get_or-set_other}
use Rattle.std.proofs.Math.Option.{some}
use Rattle.lists.specs.Members.{In}
use Rattle.lists.proofs.laws.NumberLaws.{le_or_gt, same_or_not}
use Rattle.lists.proofs.laws.MemberLaws.{none-not-some}
use Rattle.rule.specs.Words.{words_of}
use Rattle.rule.specs.Records.{HalfLink, half_link_of}
use Rattle.rule.specs.Plan.{Plan}
use Rattle.rule.specs.Links.{Link, link_cost, hop_link}
use Rattle.rule.proofs.laws.LinkLaws.{hop-takes}
use Rattle.table.specs.declared.shape.Shape.{Shape}
use Rattle.table.specs.Positions.{half_links_from, plan_at}
use Rattle.table.proofs.laws.PositionLaws.{in-records}
use Rattle.verdict.specs.Examination.{Checked}
use Rattle.verdict.proofs.laws.CheckedLaws.{bridges-counted, few-bridges}
use Rattle.links.specs.Hops.{no_hop, LowestHop}
use Rattle.links.proofs.laws.HopLaws.{narrow, listed-there, lowest_of_same, hop_none, hop_some}
use Rattle.network.specs.Layout.{neighbours_at, costs_at, ports_at, starts_at, marks_at, starts_in, neighbours_in, costs_in, ports_in}
use Rattle.network.proofs.laws.LayoutLaws.{part_at}
use Rattle.network.specs.Neighbours.{HopsOf, HopsListed, SameHops, Kept, NeighboursOf}
use Rattle.network.specs.Rows.{OfBridge, Visited, Gathering, HaveHops, HopsWritten}
use Rattle.network.proofs.laws.VisitLaws.{none-visited, visited-few}

-- A row that was gathered from all half-links of the bridge `u`.
module _ {t : List ℕ} {s : Shape} (C : Checked t s) {u from to : ℕ} {before row net : List ℕ} (G : Gathering t s u from before row net 0 to) where
  abbrev p : Plan
  p = plan_at (words_of t) s

  lowest_of_plan : (v : ℕ) → v < 64 → LowestHop p.half_links (λ h. In h p.half_links × (h.near ≡ u)) v (get_or row v 0)
  lowest_of_plan v l = lowest_of_same (G.lowest v l) there here
    where
      there : (h : HalfLink) → OfBridge t s u 0 h → In h p.half_links × (h.near ≡ u)
      there h (e, (i, a, b, f)) = (listed-there C i b h f, e)

      here : (h : HalfLink) → In h p.half_links × (h.near ≡ u) → OfBridge t s u 0 h
      here h (k, e) =
          let (i, b, f) = in-records half_link_of 3 (half_links_from s) (words_of t) s.half_links h k
          in (e, (i, omega arith, b, f))

  pub have_hops : HaveHops row net from to
  have_hops =
      record {
        size = G.size;
        in_row = λ k l h. (G.only k l h).0;
        fits = λ k l h.
            let (a, b) = G.only k l h
            in (hop_some p C.laws (narrow C) u (get_or net (neighbours_at + k) 0) (lowest_of_plan (get_or net (neighbours_at + k) 0) a) b).0;
      }

  pub row_few : s.half_links ≤ 512 → to ≤ 512
  row_few l = omega (arith, visited-few G.visited)

  -- With the costs and ports written, the row is that of the plan.
  pub hops_of_row : s.half_links ≤ 512 → {net' : List ℕ} → HopsWritten row net net' from to → HopsOf p u net' from to
  hops_of_row few {net'} H = record { in_order = G.in_order; joined = λ i l h. joined i l h (G.only i l h); listed = λ v l e. listed v l e }
    where
      joined : (i : ℕ) → from ≤ i → i < to → (get_or net (neighbours_at + i) 0 < 64) × (get_or row (get_or net (neighbours_at + i) 0) 0 < no_hop)
          → (l : Link) × (hop_link p.half_links u (get_or net' (neighbours_at + i) 0) ≡ some l) × (get_or net' (costs_at + i) 0 ≡ link_cost l) × (get_or net' (ports_at + i) 0 ≡ l.here.port)
      joined i l h (a, b) =
          let (l', e, c, d) = (hop_some p C.laws (narrow C) u (get_or net (neighbours_at + i) 0) (lowest_of_plan (get_or net (neighbours_at + i) 0) a) b).1
          in (
            l',
            ap (hop_link p.half_links u) (H.all_neighbours i (omega (arith, row_few few))) ∙ e,
            H.cost_is i l h ∙ c,
            H.port_is i l h ∙ d,
          )

      listed : (v : ℕ) (l : Link) → hop_link p.half_links u v ≡ some l → (i : ℕ) × (from ≤ i) × (i < to) × (get_or net' (neighbours_at + i) 0 ≡ v)
      listed v l e =
          let K = hop-takes p.half_links u v l e
          in let inside : v < 64 = omega (arith, K.far, few-bridges C, bridges-counted C, (C.laws.half_links.fits l.here K.link.here_listed).far_known)
          in there inside (le_or_gt no_hop (get_or row v 0))
        where
          there : v < 64 → (no_hop ≤ get_or row v 0) ⊎ (get_or row v 0 < no_hop) → (i : ℕ) × (from ≤ i) × (i < to) × (get_or net' (neighbours_at + i) 0 ≡ v)
          there inside (inl m) = absurd (none-not-some (sym (hop_none p C.laws (narrow C) u v (lowest_of_plan v inside) m) ∙ e))
          there inside (inr m) =
              let (i, a, b, f) = G.every v inside m
              in (i, a, b, H.all_neighbours i (omega (arith, row_few few)) ∙ f)

-- Hops stay where the network keeps them.
hops-kept : {p : Plan} {u from to most : ℕ} {net net' : List ℕ} → SameHops net net' most → to ≤ most → HopsOf p u net from to → HopsOf p u net' from to
hops-kept {p} {u} {from} {to} {most} {net} {net'} K l H =
    record {
      in_order = H.in_order;
      joined = λ i a b.
          let (k, e, f, g) = H.joined i a b
          in (
            k,
            ap (hop_link p.half_links u) (K.same_neighbours i (omega arith)) ∙ e,
            K.same_costs i (omega arith) ∙ f,
            K.same_ports i (omega arith) ∙ g,
          );
      listed = λ v k e. let (i, a, b, f) = H.listed v k e in (i, a, b, K.same_neighbours i (omega arith) ∙ f);
    }

pub listed_kept : {p : Plan} {n most : ℕ} {net net' : List ℕ} → n < 65 → Kept net net' most → HopsListed p n most net → HopsListed p n most net'
listed_kept {p} {n} {most} {net} {net'} l K H =
    record {
      few = λ u h. omega (arith, K.same_starts u (omega arith), H.few u h);
      each = λ u h.
          let a : get_or net' (starts_at + u) 0 ≡ get_or net (starts_at + u) 0 = K.same_starts u (omega arith)
          in let b : get_or net' (starts_at + (u + 1)) 0 ≡ get_or net (starts_at + (u + 1)) 0 = K.same_starts (u + 1) (omega arith)
          in rw (a, b) (hops-kept K.same_hops (H.few (u + 1) (omega arith)) (H.each u h));
    }

-- The hops of the first `u` bridges are listed, `at` of them.
pub record Filling (t : List ℕ) (s : Shape) (before net : List ℕ) (u at : ℕ) : Type 0 where
  pub within : u ≤ s.bridges
  pub listed : HopsListed (plan_at (words_of t) s) u at net
  pub reached : get_or net (starts_at + u) 0 ≡ at
  pub visited : Visited t s u s.half_links at
  pub same_length : length net ≡ length before

module _ (t : List ℕ) (s : Shape) (net : List ℕ) (l : starts_at < length net) where
  abbrev started : List ℕ
  started = set net starts_at 0

  first-start : (u : ℕ) → u ≤ 0 → get_or started (starts_at + u) 0 ≡ 0
  first-start u h = let e : starts_at + u ≡ starts_at = omega arith in rw e (get_or-set_same net starts_at 0 0 l)

  pub filling_starts : Filling t s started started 0 0
  filling_starts =
      record {
        within = omega arith;
        listed = record { few = λ u h. omega (arith, first-start u h); each = λ u h. absurd (omega arith) };
        reached = first-start 0 (omega arith);
        visited = none-visited t s s.half_links;
        same_length = refl;
      }

module _ {t : List ℕ} {s : Shape} {before net : List ℕ} {u at : ℕ} (F : Filling t s before net u at) where
  pub filling_goes_on :
      u < s.bridges →
      s.bridges ≤ 64 →
      s.half_links ≤ 512 →
      marks_at ≤ length before →
      {net' : List ℕ} {at' : ℕ} →
      HopsOf (plan_at (words_of t) s) u net' at at' →
      Visited t s (u + 1) s.half_links at' →
      Kept net net' at →
      Filling t s before (set net' (starts_at + (u + 1)) at') (u + 1) at'
  filling_goes_on l few few-links long {net'} {at'} H W K =
      record {
        within = omega arith;
        listed = record { few = λ w h. most w h (same_or_not w (u + 1)); each = λ w h. hops w h (same_or_not w u) };
        reached = start_now;
        visited = W;
        same_length = length-set net' (starts_at + (u + 1)) at' ∙ K.same_length ∙ F.same_length;
      }
    where
      next : List ℕ
      next = set net' (starts_at + (u + 1)) at'

      start_now : get_or next (starts_at + (u + 1)) 0 ≡ at'
      start_now = get_or-set_same net' (starts_at + (u + 1)) at' 0 (omega (arith, K.same_length, F.same_length))

      start_before : (w : ℕ) → w ≤ u → get_or next (starts_at + w) 0 ≡ get_or net (starts_at + w) 0
      start_before w h =
          get_or-set_other net' (starts_at + (u + 1)) (starts_at + w) at' 0 (λ e. omega arith) ∙ K.same_starts w (omega arith)

      most : (w : ℕ) → w ≤ u + 1 → (w ≡ u + 1) ⊎ (w ≡ u + 1 → ⊥) → get_or next (starts_at + w) 0 ≤ at'
      most w h (inl e) = omega (arith, ap (λ (k : ℕ). get_or next (starts_at + k) 0) e, start_now)
      most w h (inr d) = omega (arith, start_before w (omega arith), F.listed.few w (omega arith), H.in_order)

      -- A place of a first hop was written, and no hop.
      hops_stay : SameHops net' next 512
      hops_stay =
          record {
            same_neighbours = λ k h. other (neighbours_at + k) (omega arith);
            same_costs = λ k h. other (costs_at + k) (omega arith);
            same_ports = λ k h. other (ports_at + k) (omega arith);
          }
        where
          other : (i : ℕ) → i < starts_at → get_or next i 0 ≡ get_or net' i 0
          other i a = get_or-set_other net' (starts_at + (u + 1)) i at' 0 (λ e. omega arith)

      most_hops : at' ≤ 512
      most_hops = omega (arith, visited-few W, few-links)

      hops : (w : ℕ) → w < u + 1 → (w ≡ u) ⊎ (w ≡ u → ⊥) → HopsOf (plan_at (words_of t) s) w next (get_or next (starts_at + w) 0) (get_or next (starts_at + (w + 1)) 0)
      hops w h (inl e) =
          let a : get_or next (starts_at + u) 0 ≡ at = start_before u (omega arith) ∙ F.reached
          in rw (e, a, start_now) (hops-kept hops_stay most_hops H)
      hops w h (inr d) =
          let a : get_or next (starts_at + w) 0 ≡ get_or net (starts_at + w) 0 = start_before w (omega arith)
          in let b : get_or next (starts_at + (w + 1)) 0 ≡ get_or net (starts_at + (w + 1)) 0 = start_before (w + 1) (omega arith)
          in let fewer = F.listed.few (w + 1) (omega arith)
          in rw (a, b) (hops-kept hops_stay (omega (arith, fewer, H.in_order, most_hops))
          (hops-kept K.same_hops fewer (F.listed.each w (omega arith))))

  pub filling_ends : s.bridges ≤ u → s.half_links ≤ 512 → HopsListed (plan_at (words_of t) s) s.bridges 512 net
  filling_ends l few-links =
      let e : u ≡ s.bridges = omega (arith, F.within)
      in let H : HopsListed (plan_at (words_of t) s) s.bridges at net = rw e at F.listed
      in record { few = λ w h. omega (arith, H.few w h, visited-few F.visited); each = H.each }

-- The parts of a network whose hops are listed.
module _ {p : Plan} {n : ℕ} {net : List ℕ} (few : n ≤ 64) (H : HopsListed p n 512 net) where
  start : (u : ℕ) → u ≤ n → get_or (starts_in net) u 0 ≡ get_or net (starts_at + u) 0
  start u l = part_at net starts_at 129 u (omega arith)

  inside : (u i : ℕ) → u < n → i < get_or (starts_in net) (u + 1) 0 → i < 512
  inside u i l h = omega (arith, start (u + 1) (omega arith), H.few (u + 1) (omega arith))

  pub neighbours_of_plan : NeighboursOf p n (starts_in net) (neighbours_in net) (costs_in net) (ports_in net)
  neighbours_of_plan =
      record {
        in_order = λ u l. omega (arith, start u (omega arith), start (u + 1) (omega arith), (H.each u l).in_order);
        few = λ u l. omega (arith, start (u + 1) (omega arith), H.few (u + 1) (omega arith));
        joined = λ u i l a b.
            let (k, e, f, g) = (H.each u l).joined i (omega (arith, start u (omega arith))) (omega (arith, start (u + 1) (omega arith)))
            in let m = inside u i l b
            in (
              k,
              ap (hop_link p.half_links u) (part_at net neighbours_at 512 i m) ∙ e,
              part_at net costs_at 512 i m ∙ f,
              part_at net ports_at 512 i m ∙ g,
            );
        listed = λ u v l k e.
            let (i, a, b, f) = (H.each u l).listed v k e
            in let c : i < get_or (starts_in net) (u + 1) 0 = omega (arith, start (u + 1) (omega arith))
            in (i, omega (arith, start u (omega arith)), c, part_at net neighbours_at 512 i (inside u i l c) ∙ f);
      }
