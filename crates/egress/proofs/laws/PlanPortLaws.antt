-- The ports of a bridge of an accepted plan: its network gives the port of each hop, and all of them rising.
-- Assumes nothing.
use Rattle.std.specs.Prelude.{ℕ, ◌≤◌, ◌<◌, ◌≡◌, refl, List, length, get_or}
use Rattle.std.proofs.Common.{arith, sym, ap, ◌∙◌, subst}
use Rattle.std.proofs.Math.Option.{Option, none, some, map}
use Rattle.lists.specs.Members.{In, EveryTwo}
use Rattle.lists.proofs.laws.MemberLaws.{none-not-some}
use Rattle.rule.specs.Plan.{Plan}
use Rattle.rule.specs.PlanLaws.{PlanLaws}
use Rattle.rule.specs.Links.{Link, hop_link}
use Rattle.rule.proofs.laws.LinkLaws.{hop-takes}
use Rattle.network.specs.Layout.{bridges_in, neighbours_in, ports_in}
use Rattle.network.specs.Networks.{NetworkOf}
use Rattle.egress.specs.Hops.{PlaceOf, HopPorts, InRange, RisingPorts}
use Rattle.egress.proofs.laws.HopLaws.{HopLists}
use Rattle.egress.specs.Leaving.{number_of, port_to, PlanHops}

-- The ports of a bridge of a plan, rising: those of its hops, all within their range.
pub record PlanPorts (p : Plan) (b : ℕ) (ports : List ℕ) : Type 0 where
  pub rises : EveryTwo (λ x y. x < y) ports
  pub fits : (q : ℕ) → In q ports → (1 ≤ q) × (q ≤ 4095)
  pub all : (u : ℕ) (l : Link) → hop_link p.half_links b u ≡ some l → In l.here.port ports

some_one : {l k : Link} → some l ≡ some k → l ≡ k
some_one {l} {k} e = let f : l ≡ k = cc in f

module _ (p : Plan) (L : PlanLaws p) (b u : ℕ) where
  pub port-fits : port_to p.half_links b u ≤ 4095
  port-fits = go (hop_link p.half_links b u) refl
    where
      go : (o : Option Link) → hop_link p.half_links b u ≡ o → number_of (map (λ l. l.here.port) o) ≤ 4095
      go none e = omega arith
      go (some l) e = (L.half_links.fits l.here (hop-takes p.half_links b u l e).link.here_listed).greatest_port

  pub port-there : (l : Link) → hop_link p.half_links b u ≡ some l → (port_to p.half_links b u ≡ l.here.port) × (0 < l.here.port)
  port-there l e = (
    ap (λ (o : Option Link). number_of (map (λ l. l.here.port) o)) e,
    (L.half_links.fits l.here (hop-takes p.half_links b u l e).link.here_listed).least_port,
  )

module _ {p : Plan} {net : List ℕ} (B : NetworkOf p net) (b : ℕ) (known : b < bridges_in net) where
  hop-at : (i : ℕ) → PlaceOf net b i
      → (l : Link) × (hop_link p.half_links b (get_or (neighbours_in net) i 0) ≡ some l) × (get_or (ports_in net) i 0 ≡ l.here.port)
  hop-at i (h, k) = let (l, e, f, g) = B.hops.joined b i known h k in (l, e, g)

  pub hop-lists : HopLists net b
  hop-lists = record {
    in_order = B.hops.in_order b known;
    few = B.hops.few b known;
    inside = λ i k.
        let (l, e, f) = hop-at i k
        in let K = hop-takes p.half_links b (get_or (neighbours_in net) i 0) l e
        in omega (arith, (B.laws.half_links.fits l.here K.link.here_listed).far_known, K.far, B.represents.size_is);
    fits = λ i k.
        let (l, e, f) = hop-at i k
        in omega (arith, (B.laws.half_links.fits l.here (hop-takes p.half_links b (get_or (neighbours_in net) i 0) l e).link.here_listed).greatest_port);
    one_port = λ i j h k e.
        let (l, f, g) = hop-at i h
        in let (m, q, r) = hop-at j k
        in g ∙ ap (λ (x : Link). x.here.port) (some_one (sym f ∙ ap (hop_link p.half_links b) e ∙ q)) ∙ sym r;
  }

  pub plan-hops : {hops : List ℕ} → HopPorts net b hops → PlanHops p (bridges_in net) b hops
  plan-hops {hops} H = record { each = λ u l. go u l (hop_link p.half_links b u) refl }
    where
      go : (u : ℕ) → u < bridges_in net → (o : Option Link) → hop_link p.half_links b u ≡ o → get_or hops u 0 ≡ number_of (map (λ l. l.here.port) o)
      go u l none e = H.no_hop u l (λ i k f.
          let (m, g, h) = hop-at i k in none-not-some (sym e ∙ ap (hop_link p.half_links b) (sym f) ∙ g))
      go u l (some m) e =
          let (i, a, c, f) = B.hops.listed b u known m e
          in let (k, g, h) = hop-at i (a, c)
          in ap (λ (x : ℕ). get_or hops x 0) (sym f) ∙ H.at_hop i (a, c) ∙ h
          ∙ ap (λ (x : Link). x.here.port) (some_one (sym g ∙ ap (hop_link p.half_links b) f ∙ e))

module _ {p : Plan} {n b : ℕ} {hops : List ℕ} (L : PlanLaws p) (H : PlanHops p n b hops) where
  pub hops-in_range : InRange hops n
  hops-in_range = record { fits = λ u l. omega (arith, H.each u l, port-fits p L b u) }

  pub plan-ports : length p.bridges ≡ n → {ports : List ℕ} → RisingPorts hops n ports → PlanPorts p b ports
  plan-ports e {ports} R = record {
    rises = R.rises;
    fits = λ q i. let (a, (u, l, f)) = R.of_hop q i in (a, omega (arith, H.each u l, port-fits p L b u));
    all = λ u l f.
        let K = hop-takes p.half_links b u l f
        in let k : u < n = omega (arith, (L.half_links.fits l.here K.link.here_listed).far_known, K.far)
        in let g = port-there p L b u l f
        in subst (λ (x : ℕ). In x ports) (H.each u k ∙ g.0) (R.all u k (omega (arith, H.each u k, g.0, g.1)));
  }
