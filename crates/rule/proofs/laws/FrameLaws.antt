-- Individual frames of an accepted plan (demand 3): moved by the words of its entries they cross the links of the chosen path, the same
-- links in reverse come back, and at each bridge entered the entry for the sender names the arrival port. Assumes nothing.
use Prim.Native.Nat.{ℕ, zero, suc, ◌≤◌, ◌<◌}
use Rattle.std.proofs.Common.{arith, ◌∙◌}
use Rattle.std.specs.Prelude.{◌≡◌, ◌⊎◌, eqb, length}
use Rattle.std.proofs.Math.Path.{refl, sym, ap, subst}
use mathlib.Core.List.{List, [], ◌∷◌, map, reverse}
use Rattle.std.proofs.Math.Option
use Rattle.std.proofs.Math.Option.{Option, some, some-injective}
use Rattle.std.proofs.Math.Logic.{inl, inr}
use Rattle.std.proofs.Math.Bool.{cond}
use Rattle.std.proofs.lemmas.List.{length-reverse}
use Rattle.graph.specs.Graph.{IsPath, hops}
use Rattle.lists.specs.Members.{In}
use Rattle.lists.proofs.laws.ListNotions.{along}
use Rattle.graph.proofs.laws.Notions.{Least, Leaves}
use Rattle.lists.proofs.laws.NumberLaws.{eqb_same, eqb-other}
use Rattle.lists.proofs.laws.MemberLaws.{nil_not_cons, along-reverse, map-reverse}
use Rattle.lists.proofs.laws.GivenLaws.{map_injective}
use Rattle.graph.proofs.laws.Paths.{end-inside}
use Rattle.graph.proofs.laws.ChosenPaths.{chosen-first, chosen-reverse}
use Rattle.graph.proofs.laws.Enumeration.{chosen-or_no_path}
use Rattle.graph.proofs.laws.Forwarding.{chosen-after, chosen-other, arrival}
use Rattle.rule.specs.Records.{HalfLink, address}
use Rattle.rule.specs.Plan.{bridge_at}
use Rattle.rule.specs.Links.{Link, to, turned, hop_link}
use Rattle.rule.specs.Entries.{list_of, first_port, ports_of}
use Rattle.rule.specs.Frames.{only, arrival_port, entry_ports, crossed_by, leaves, then_on, crossings, stood}
use Rattle.rule.proofs.laws.LinkLaws.{hop-takes, hop_crosses, hop-turned, joined-hop}
use Rattle.rule.proofs.laws.Network.{chosen_is_path, no_path_is_none, Network, size, vid_plan, vid-laws, links, graph, key, graph_meets, key_meets, ChosenFor}
use Rattle.rule.proofs.laws.EntryLaws.{ports_to, individual-ports}

-- Links along a path

module _ (hs : List HalfLink) where
  -- A frame that crosses the links of a path's hops stood at the bridges of the path.
  pub stood_on : (a : ℕ) (t : List ℕ) (ls : List Link) → map some ls ≡ along (hop_link hs) (a ∷ t) → stood a ls ≡ a ∷ t
  stood_on a [] [] e = refl
  stood_on a [] (l ∷ ls) e = absurd (nil_not_cons (sym e))
  stood_on a (v ∷ t) [] e = absurd (nil_not_cons e)
  stood_on a (v ∷ t) (l ∷ ls) e =
      let f : hop_link hs a v ≡ some l = cc in
      let g : map some ls ≡ along (hop_link hs) (v ∷ t) = cc in
      let h : to l ≡ v = (hop-takes hs a v l f).far in
      let i : v ∷ map to ls ≡ v ∷ t = stood_on v t ls g in
      cc

module _ (N : Network) where
  abbrev pub ports_at : ℕ → ℕ → List ℕ
  ports_at u b = entry_ports 8 N.vid.vid (address (bridge_at N.plan b)) (N.lists u)

  abbrev pub leave : ℕ → ℕ → Option Link
  leave b u = leaves (links N) N.lists N.vid.vid (address (bridge_at N.plan b)) u

  -- What a bridge's words hold for another bridge.
  ports-read : (u b : ℕ) → u < size N → b < size N → (b ≡ u → ⊥) → ports_at u b ≡ ports_to (vid_plan N) N.vid u b
  ports-read u b l k n = ap (entry_ports 8 N.vid.vid (address (bridge_at N.plan b))) (N.written u l)
      ∙ individual-ports N.plan N.laws N.vid u b N.of_plan k n

  -- "exactly then a has no entry for b" (demand 3): without a path there is none.
  pub no_path_no_port : (u b : ℕ) → u < size N → b < size N → (b ≡ u → ⊥)
      → ((q : List ℕ) → IsPath (graph N) u b q → ⊥) → ports_at u b ≡ []
  no_path_no_port u b l k n f = ports-read u b l k n
      ∙ ap (ports_of (first_port (links N))) (no_path_is_none (vid_plan N) (vid-laws N) N.vid.index u b f)

  -- Where a path is chosen the one entry has the port of the link that its first hop takes.
  pub port_of_hop_lem : (u w b : ℕ) (t : List ℕ) (l : Link) → ChosenFor N u b (u ∷ w ∷ t) → hop_link (links N) u w ≡ some l
      → ports_at u b ≡ l.here.port ∷ []
  port_of_hop_lem u w b t l P e =
      ports-read u b ((graph_meets N).inside u w P.path.1.0) (end-inside (graph N) (graph_meets N) u w t b P.path.1)
      (λ f. chosen-other (graph N) (key N) u w b t P (sym f))
      ∙ ap (ports_of (first_port (links N))) (chosen_is_path (vid_plan N) (vid-laws N) N.vid.index u b (u ∷ w ∷ t) P)
      ∙ ap (λ (o : Option Link). list_of (Option.map (λ l. l.here.port) o)) e

  -- The frame leaves by that link.
  leaves_by_hop : (u w b : ℕ) (t : List ℕ) (l : Link) → ChosenFor N u b (u ∷ w ∷ t) → hop_link (links N) u w ≡ some l → leave b u ≡ some l
  unfolding leaves
  leaves_by_hop u w b t l P e =
      ap (λ (ports : List ℕ). crossed_by (links N) u (only ports)) (port_of_hop_lem u w b t l P e) ∙ hop_crosses (vid_plan N) (vid-laws N) u w l e

  -- "stops at b".
  stops-there : (b n a : ℕ) → a ≡ b → crossings (leave b) b (suc n) a ≡ []
  unfolding crossings
  stops-there b n a e = subst (λ (z : ℕ). cond (eqb a z) [] (then_on (crossings (leave b) b n) (leave b a)) ≡ []) e
      (eqb_same a [] (then_on (crossings (leave b) b n) (leave b a)))

  moves_on : (b n a w : ℕ) (t : List ℕ) (l : Link) → ChosenFor N a b (a ∷ w ∷ t) → hop_link (links N) a w ≡ some l
      → crossings (leave b) b (suc n) a ≡ l ∷ crossings (leave b) b n w
  unfolding crossings
  moves_on b n a w t l P e =
      eqb-other a b [] (then_on (crossings (leave b) b n) (leave b a)) (chosen-other (graph N) (key N) a w b t P)
      ∙ ap (then_on (crossings (leave b) b n)) (leaves_by_hop a w b t l P e)
      ∙ ap (λ (z : ℕ). l ∷ crossings (leave b) b n z) (hop-takes (links N) a w l e).far

  -- "a frame from a, moved by the entries for b, reaches b along the path given" (demand 3): the links that it crosses are those of
  -- the path's hops.
  crosses_onward : (b n a : ℕ) (t : List ℕ) → ChosenFor N a b (a ∷ t) → length t ≤ n
      → map some (crossings (leave b) b n a) ≡ along (hop_link (links N)) (a ∷ t)
  unfolding crossings
  crosses_onward b zero a [] P l = refl
  crosses_onward b zero a (w ∷ t) P l = absurd (omega arith)
  crosses_onward b (suc n) a [] P l = ap (map some) (stops-there b n a P.path.1)
  crosses_onward b (suc n) a (w ∷ t) P l =
      let (k, e) = joined-hop (vid_plan N) (vid-laws N) a w P.path.1.0 in
      ap (map some) (moves_on b n a w t k P e)
      ∙ (λ i. sym e i ∷ crosses_onward b n w t (chosen-after (graph N) (key N) a w b t P) (omega arith) i)

  pub crosses_path : (b n a : ℕ) (q : List ℕ) → ChosenFor N a b q → hops q ≤ n
      → map some (crossings (leave b) b n a) ≡ along (hop_link (links N)) q
  crosses_path b n a q P l = go (chosen-first (graph N) (key N) a b q P)
    where
      go : ((t : List ℕ) × (q ≡ a ∷ t) × Least (graph N) a t b) → map some (crossings (leave b) b n a) ≡ along (hop_link (links N)) q
      go (t, e, W) = crosses_onward b n a t (rw e at P) (omega (arith, ap hops e)) ∙ ap (along (hop_link (links N))) (sym e)

  -- "the bridges where it stood, in order, are that path".
  pub stands-on-path : (b n a : ℕ) (q : List ℕ) → ChosenFor N a b q → hops q ≤ n → stood a (crossings (leave b) b n a) ≡ q
  stands-on-path b n a q P l = go (chosen-first (graph N) (key N) a b q P)
    where
      go : ((t : List ℕ) × (q ≡ a ∷ t) × Least (graph N) a t b) → stood a (crossings (leave b) b n a) ≡ q
      go (t, e, W) = stood_on (links N) a t (crossings (leave b) b n a) (crosses_onward b n a t (rw e at P) (omega (arith, ap hops e))) ∙ sym e

  -- "The frame from b to a passes the same links in reverse" (demand 3).
  pub same-links : (a b n : ℕ) (q : List ℕ) → ChosenFor N a b q → hops q ≤ n
      → crossings (leave a) a n b ≡ reverse (map turned (crossings (leave b) b n a))
  same-links a b n q P l = map_injective some (λ k m e. some-injective k m e) (crossings (leave a) a n b)
      (reverse (map turned (crossings (leave b) b n a)))
      (crosses_path a n b (reverse q) (chosen-reverse (graph N) (graph_meets N) (key N) a b q P) (omega (arith, length-reverse q))
      ∙ along-reverse (hop_link (links N)) (Option.map turned) (hop-turned (vid_plan N) (vid-laws N)) q
      ∙ ap (λ (os : List (Option Link)). reverse (map (Option.map turned) os)) (sym (crosses_path b n a q P l))
      ∙ ap (λ (os : List (Option Link)). reverse os) (turned-all (crossings (leave b) b n a))
      ∙ sym (map-reverse some (map turned (crossings (leave b) b n a))))
    where
      turned-all : (ls : List Link) → map (Option.map turned) (map some ls) ≡ map some (map turned ls)
      turned-all [] = refl
      turned-all (k ∷ ls) = ap (λ (os : List (Option Link)). some (turned k) ∷ os) (turned-all ls)

  -- Each link that it crosses, in any number of moves, is that of a hop of the path.
  crossed_is_hop : (b n a : ℕ) (t : List ℕ) → ChosenFor N a b (a ∷ t) → (l : Link) → In l (crossings (leave b) b n a)
      → (c : ℕ) × (w : ℕ) × Leaves c w (a ∷ t) × (hop_link (links N) c w ≡ some l)
  unfolding crossings
  crossed_is_hop b zero a t P l k = absurd k
  crossed_is_hop b (suc n) a [] P l k = absurd (subst (λ (ls : List Link). In l ls) (stops-there b n a P.path.1) k)
  crossed_is_hop b (suc n) a (w ∷ t) P l k =
      let (m, e) = joined-hop (vid_plan N) (vid-laws N) a w P.path.1.0 in
      go m e (subst (λ (ls : List Link). In l ls) (moves_on b n a w t m P e) k)
      (crossed_is_hop b n w t (chosen-after (graph N) (key N) a w b t P) l)
    where
      go : (m : Link) → hop_link (links N) a w ≡ some m → In l (m ∷ crossings (leave b) b n w)
          → (In l (crossings (leave b) b n w) → (c : ℕ) × (x : ℕ) × Leaves c x (w ∷ t) × (hop_link (links N) c x ≡ some l))
          → (c : ℕ) × (x : ℕ) × Leaves c x (a ∷ w ∷ t) × (hop_link (links N) c x ≡ some l)
      go m e (inl f) ih = (a, w, inl (refl, refl), e ∙ ap some (sym f))
      go m e (inr k) ih = let (c, x, h, f) = ih k in (c, x, inr h, f)

  -- "At each bridge that the frame from a enters, the entry for a names the arrival port" (demand 3): from a bridge `w` whose chosen
  -- path to `a` begins with the hop to `c`, entered from there.
  pub arrival-named : (a c w : ℕ) (t : List ℕ) (l : Link) → ChosenFor N w a (w ∷ c ∷ t) → hop_link (links N) c w ≡ some l
      → ports_at (to l) a ≡ arrival_port l ∷ []
  arrival-named a c w t l P e = subst (λ (z : ℕ). ports_at z a ≡ arrival_port l ∷ []) (sym (hop-takes (links N) c w l e).far)
      (port_of_hop_lem w c a t (turned l) P (hop-turned (vid_plan N) (vid-laws N) c w ∙ ap (Option.map turned) e))

  -- Without a path the frame is lost where it starts.
  lost : (a b n : ℕ) → a < size N → b < size N → (a ≡ b → ⊥) → ((q : List ℕ) → IsPath (graph N) a b q → ⊥)
      → crossings (leave b) b n a ≡ []
  unfolding crossings leaves
  lost a b zero h i d f = refl
  lost a b (suc n) h i d f =
      eqb-other a b [] (then_on (crossings (leave b) b n) (leave b a)) d
      ∙ ap (λ (ports : List ℕ). then_on (crossings (leave b) b n) (crossed_by (links N) a (only ports)))
      (no_path_no_port a b h i (λ e. d (sym e)) f)

  pub frame-arrival : (a b n : ℕ) → a < size N → b < size N → (a ≡ b → ⊥) → (l : Link)
      → In l (crossings (leave b) b n a) → ports_at (to l) a ≡ arrival_port l ∷ []
  frame-arrival a b n h i d l k = go (chosen-or_no_path (graph N) (graph_meets N) (key N) (key_meets N) a b)
    where
      on-path : (q : List ℕ) → ChosenFor N a b q → ((t : List ℕ) × (q ≡ a ∷ t) × Least (graph N) a t b) → ports_at (to l) a ≡ arrival_port l ∷ []
      on-path q P (t, e, W) =
          let (c, w, m, f) = crossed_is_hop b n a t (rw e at P) l k in
          let (s, R) = arrival (graph N) (graph_meets N) (key N) a b (a ∷ t) c w (rw e at P) m in
          arrival-named a c w s l R f

      go : ((q : List ℕ) × ChosenFor N a b q) ⊎ ((q : List ℕ) → IsPath (graph N) a b q → ⊥) → ports_at (to l) a ≡ arrival_port l ∷ []
      go (inl (q, P)) = on-path q P (chosen-first (graph N) (key N) a b q P)
      go (inr f) = absurd (subst (λ (ls : List Link). In l ls) (lost a b n h i d f) k)
