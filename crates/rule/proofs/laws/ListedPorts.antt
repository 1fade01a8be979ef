-- The ports that are listed for a transmitting member at a bridge (01, "Entries"): each is the near port of the link by which the chosen
-- path to some receiver leaves the bridge, each such port is listed, and each leads to another bridge. Assumes nothing.
use Rattle.std.specs.Prelude.{ℕ, ◌+◌, ◌≤◌, ◌<◌, ◌≡◌, Bool, true, false, cond, ◌&&◌, length}
use Rattle.std.proofs.Common.{arith, sym, ◌∙◌, inl, inr, eqb→eq}
use Rattle.std.proofs.Math.Path.{refl, ap, subst}
use mathlib.Core.List.{List, [], ◌∷◌, map, flat_map}
use Rattle.std.proofs.Math.Option
use Rattle.std.proofs.Math.Option.{Option, none, some, some-injective}
use Rattle.std.proofs.Math.Dec.{T, eqb}
use Rattle.std.proofs.lemmas.List.{length-map}
use Rattle.lists.specs.Lists.{selected}
use Rattle.lists.specs.Members.{In}
use Rattle.lists.proofs.laws.ListNotions.{Distinct}
use Rattle.graph.proofs.laws.Notions.{Least, Leaves}
use Rattle.lists.proofs.laws.NumberLaws.{two-equal, is_true, eq_eqb, eqb-other}
use Rattle.lists.proofs.laws.MemberLaws.{none-not-some, map-in, in-flat_map, flat_map-in}
use Rattle.lists.proofs.laws.SelectedLaws.{selected-in, in-selected}
use Rattle.lists.proofs.laws.DistinctLaws.{at_most, distinct-flat_map}
use Rattle.lists.proofs.laws.GivenLaws.{distinct-map, length-flat_map-each}
use Rattle.graph.proofs.laws.Paths.{entered-inside}
use Rattle.graph.proofs.laws.ChosenPaths.{chosen-first, chosen-distinct}
use Rattle.rule.specs.Records.{HalfLink, Member}
use Rattle.rule.specs.Links.{Link, from, to, hop_link, usable_links}
use Rattle.rule.specs.Paths.{chosen_path}
use Rattle.rule.specs.Entries.{list_of, first_port, ports_of, leaving_port, receives, receiver_ports}
use Rattle.rule.specs.Frames.{only, crossed}
use Rattle.rule.specs.PlanLaws.{HalfLinkFits}
use Rattle.rule.proofs.laws.LinkLaws.{hop-takes, hop_crosses, hop-joined}
use Rattle.rule.proofs.laws.EntryLaws.{first-port-says, ports_behind, port-listed, listed-port, distinct-ports}
use Rattle.rule.proofs.laws.Network.{chosen_is_path, path_is_chosen, Network, size, vid_plan, vid-laws, links, graph, key, graph_meets, ChosenFor}

module _ {A : Type 0} where
  listed_is : (o : Option A) (a : A) → In a (list_of o) → o ≡ some a
  listed_is none a k = absurd k
  listed_is (some x) a (inl e) = ap some (sym e)
  listed_is (some x) a (inr k) = absurd k

  is_listed : (o : Option A) (a : A) → o ≡ some a → In a (list_of o)
  is_listed o a e = subst (λ (z : Option A). In a (list_of z)) (sym e) (inl refl)

  only_is : (xs : List A) (a : A) → only xs ≡ some a → In a xs
  only_is [] a e = absurd (none-not-some e)
  only_is (x ∷ []) a e = inl (let f : a ≡ x = cc in f)
  only_is (x ∷ y ∷ xs) a e = absurd (none-not-some e)

-- Where a path leaves a bridge

later-leaves : (c w x : ℕ) (q : List ℕ) → Leaves c w q → Leaves c w (x ∷ q)
later-leaves c w x [] h = absurd h
later-leaves c w x (y ∷ q) h = inr h

-- A path leaves a bridge that is on it for one that is not its first.
left_in : (c w : ℕ) (q : List ℕ) → Leaves c w q → In c q
left_in c w [] h = elim h [ ]
left_in c w (x ∷ []) h = elim h [ ]
left_in c w (x ∷ y ∷ t) (inl (e, f)) = inl e
left_in c w (x ∷ y ∷ t) (inr h) = inr (left_in c w (y ∷ t) h)

entered-later : (c w x : ℕ) (t : List ℕ) → Leaves c w (x ∷ t) → In w t
entered-later c w x [] h = elim h [ ]
entered-later c w x (y ∷ t) (inl (e, f)) = inl f
entered-later c w x (y ∷ t) (inr h) = inr (entered-later c w y t h)

entered-other : (c w : ℕ) (q : List ℕ) → Distinct q → Leaves c w q → w ≡ c → ⊥
entered-other c w [] d h g = elim h [ ]
entered-other c w (x ∷ []) d h g = elim h [ ]
entered-other c w (x ∷ y ∷ t) d (inl (e, f)) g = d.0 (inl (sym e ∙ sym g ∙ f))
entered-other c w (x ∷ y ∷ t) d (inr h) g = entered-other c w (y ∷ t) d.1 h g

module _ (hs : List HalfLink) where
  -- "passes this bridge and leaves it there": the port is that of the link that the hop from there takes.
  pub leaving-says : (c port : ℕ) (q : List ℕ) → leaving_port hs c q ≡ some port
      → (w : ℕ) × (l : Link) × Leaves c w q × (hop_link hs c w ≡ some l) × (port ≡ l.here.port)
  unfolding leaving_port
  leaving-says c port [] e = absurd (none-not-some e)
  leaving-says c port (x ∷ t) e = go (eqb x c) (eqb→eq x c) e (leaving-says c port t)
    where
      here : x ≡ c → first_port hs (x ∷ t) ≡ some port
          → (w : ℕ) × (l : Link) × Leaves c w (x ∷ t) × (hop_link hs c w ≡ some l) × (port ≡ l.here.port)
      here f e = let (u, w, s, l, g, h, i) = first-port-says hs (x ∷ t) port (is_listed (first_port hs (x ∷ t)) port e) in
          let j : x ≡ u = cc in (
            w,
            l,
            subst (λ (z : List ℕ). Leaves c w z) (sym g) (inl (sym f ∙ j, refl)),
            subst (λ (z : ℕ). hop_link hs z w ≡ some l) (sym j ∙ f) h,
            i,
          )

      go : (b : Bool) → (T b → x ≡ c) → cond b (first_port hs (x ∷ t)) (leaving_port hs c t) ≡ some port
          → (leaving_port hs c t ≡ some port → (w : ℕ) × (l : Link) × Leaves c w t × (hop_link hs c w ≡ some l) × (port ≡ l.here.port))
          → (w : ℕ) × (l : Link) × Leaves c w (x ∷ t) × (hop_link hs c w ≡ some l) × (port ≡ l.here.port)
      go true f e ih = here (f tt) e
      go false f e ih = let (w, l, h, i, j) = ih e in (w, l, later-leaves c w x t h, i, j)

  says-leaving : (c w : ℕ) (q : List ℕ) → Distinct q → Leaves c w q → (l : Link) → hop_link hs c w ≡ some l
      → leaving_port hs c q ≡ some l.here.port
  unfolding leaving_port
  says-leaving c w [] d h l g = elim h [ ]
  says-leaving c w (x ∷ []) d h l g = elim h [ ]
  says-leaving c w (x ∷ y ∷ t) d (inl (e, f)) l g = let h : hop_link hs x y ≡ some l = cc in
      rw (is_true (eqb x c) (eq_eqb x c (sym e))) (ap (Option.map (λ l. l.here.port)) h)
  says-leaving c w (x ∷ y ∷ t) d (inr h) l g =
      eqb-other x c (first_port hs (x ∷ y ∷ t)) (leaving_port hs c (y ∷ t))
      (λ e. d.0 (subst (λ (z : ℕ). In z (y ∷ t)) (sym e) (left_in c w (y ∷ t) h)))
      ∙ says-leaving c w (y ∷ t) d.1 h l g

  crossed-port : (u port : ℕ) (l : Link) → crossed hs u port ≡ some l → l.here.port ≡ port
  unfolding crossed
  crossed-port u port l e =
      let r = selected-in (λ l. eqb (from l) u && eqb l.here.port port) l (usable_links hs)
      (only_is (selected (λ l. eqb (from l) u && eqb l.here.port port) (usable_links hs)) l e) in
      (two-equal (from l) u l.here.port port r.1).1

-- The ports listed for a transmitting member

module _ (N : Network) (m : Member) where
  -- The ports of the bridge `u` behind which a receiver is, those of them that are listed, and the path to a receiver.
  abbrev behind : ℕ → List ℕ
  behind u = receiver_ports (vid_plan N) N.vid u N.plan.members m

  abbrev pub listed : ℕ → List ℕ
  listed u = ports_behind (vid_plan N) N.vid u m

  abbrev path_to : Member → Option (List ℕ)
  path_to r = chosen_path (vid_plan N) N.vid.index m.bridge r.bridge

  -- "every other receiving member of its service": a bridge that is one.
  abbrev pub ReceivesAt : ℕ → Type 0
  ReceivesAt r = (k : Member) × In k N.plan.members × T (receives m k) × (r ≡ k.bridge)

  -- A copy from the sender leaves the bridge `u` by the link `l`: that of the hop that the chosen path to some receiver takes there.
  pub record Led (u : ℕ) (l : Link) : Type 0 where
    pub receiver : Member
    pub of_table : In receiver N.plan.members
    pub receives : T (receives m receiver)
    pub path : List ℕ
    pub chosen : ChosenFor N m.bridge receiver.bridge path
    pub next : ℕ
    pub leaves : Leaves u next path
    pub hop : hop_link (links N) u next ≡ some l

  -- Each port listed is that of such a link, and each such link's port is listed.
  port_leads : (u port : ℕ) → In port (listed u) → (l : Link) × (crossed (links N) u port ≡ some l) × Led u l
  unfolding receiver_ports
  port_leads u port k =
      let (r, i, j) = flat_map-in (λ r. ports_of (leaving_port (links N) u) (path_to r)) port (selected (receives m) N.plan.members)
      (listed-port (behind u) port k).2 in
      let s = selected-in (receives m) r N.plan.members i in
      go r s.0 s.1 (path_to r) refl j
    where
      go : (r : Member) → In r N.plan.members → T (receives m r) → (o : Option (List ℕ)) → path_to r ≡ o
          → In port (ports_of (leaving_port (links N) u) o) → (l : Link) × (crossed (links N) u port ≡ some l) × Led u l
      go r i t none e j = absurd j
      go r i t (some q) e j =
          let (w, l, h, f, g) = leaving-says (links N) u port q (listed_is (leaving_port (links N) u q) port j) in (
            l,
            ap (crossed (links N) u) g ∙ hop_crosses (vid_plan N) (vid-laws N) u w l f,
            record {
              receiver = r;
              of_table = i;
              receives = t;
              path = q;
              chosen = path_is_chosen (vid_plan N) (vid-laws N) N.vid.index m.bridge r.bridge q e;
              next = w;
              leaves = h;
              hop = f;
            },
          )

  leads_port : (u : ℕ) (l : Link) → Led u l → In l.here.port (listed u)
  unfolding receiver_ports
  leads_port u l D = port-listed (behind u) l.here.port F.least_port F.greatest_port found
    where
      F : HalfLinkFits (size N) l.here
      F = (vid-laws N).half_links.fits l.here (hop-takes (links N) u D.next l D.hop).link.here_listed

      found : In l.here.port (behind u)
      found = in-flat_map (λ r. ports_of (leaving_port (links N) u) (path_to r)) l.here.port D.receiver
          (selected (receives m) N.plan.members)
          (in-selected (receives m) D.receiver N.plan.members D.of_table D.receives)
          (subst (λ (o : Option (List ℕ)). In l.here.port (ports_of (leaving_port (links N) u) o))
          (sym (chosen_is_path (vid_plan N) (vid-laws N) N.vid.index m.bridge D.receiver.bridge D.path D.chosen))
          (is_listed (leaving_port (links N) u D.path) l.here.port
          (says-leaving (links N) u D.next D.path
          (chosen-distinct (graph N) (key N) m.bridge D.receiver.bridge D.path D.chosen) D.leaves l D.hop)))

  -- Where a led link enters.
  pub led_enters : (u : ℕ) (l : Link) (D : Led u l) → to l ≡ D.next
  led_enters u l D = (hop-takes (links N) u D.next l D.hop).far

  -- The links of all listed ports.
  abbrev pub led_from : ℕ → List Link
  led_from u = flat_map (λ port. list_of (crossed (links N) u port)) (listed u)

  pub led_says : (u : ℕ) (l : Link) → In l (led_from u) → Led u l
  led_says u l k = let (port, i, j) = flat_map-in (λ port. list_of (crossed (links N) u port)) l (listed u) k in
      let (l', e, D) = port_leads u port i in
      let f : l' ≡ l = some-injective l' l (sym e ∙ listed_is (crossed (links N) u port) l j) in
      subst (λ (z : Link). Led u z) f D

  pub says_led : (u : ℕ) (l : Link) → Led u l → In l (led_from u)
  says_led u l D = in-flat_map (λ port. list_of (crossed (links N) u port)) l l.here.port (listed u) (leads_port u l D)
      (is_listed (crossed (links N) u l.here.port) l (hop_crosses (vid_plan N) (vid-laws N) u D.next l D.hop))

  -- Each port leads to another bridge.
  pub led_once : (u : ℕ) → Distinct (map to (led_from u))
  led_once u = distinct-map to (led_from u)
      (distinct-flat_map (λ port. list_of (crossed (links N) u port)) (listed u) (distinct-ports (behind u))
      (λ port i. one (crossed (links N) u port))
      (λ port port' l i j h k. sym (crossed-port (links N) u port l (listed_is (crossed (links N) u port) l h))
      ∙ crossed-port (links N) u port' l (listed_is (crossed (links N) u port') l k)))
      (λ l k i j e. same l k (led_says u l i) (led_says u k j) e)
    where
      one : (o : Option Link) → Distinct (list_of o)
      one none = tt
      one (some l) = (λ k. k, tt)

      same : (l k : Link) (D : Led u l) (E : Led u k) → to l ≡ to k → l ≡ k
      same l k D E e = let f : D.next ≡ E.next = sym (led_enters u l D) ∙ e ∙ led_enters u k E in
          some-injective l k (sym D.hop ∙ ap (hop_link (links N) u) f ∙ E.hop)

  -- A bridge has at most as many listed ports as there are bridges beside itself and the sender.
  pub few_ports : In m N.plan.members → (u : ℕ) → u < size N → (u ≡ m.bridge → ⊥) → 2 + length (listed u) ≤ size N
  few_ports of_table u l n = omega (
    arith,
    at_most (size N) (u ∷ m.bridge ∷ map to (led_from u)) (not_here, (not_sender, led_once u)) below,
    length-map (led_from u) to,
    length-flat_map-each (λ port. list_of (crossed (links N) u port)) 1 (listed u)
        (λ port k. let (l, e, D) = port_leads u port k in ap (λ (o : Option Link). length (list_of o)) e),
  )
    where
      led_to : (w : ℕ) → In w (map to (led_from u)) → (l : Link) × Led u l × (w ≡ to l)
      led_to w k = let (l, i, e) = map-in to w (led_from u) k in (l, led_says u l i, e)

      distinct : (l : Link) (D : Led u l) → Distinct D.path
      distinct l D = chosen-distinct (graph N) (key N) m.bridge D.receiver.bridge D.path D.chosen

      not_here : In u (m.bridge ∷ map to (led_from u)) → ⊥
      not_here (inl e) = n e
      not_here (inr k) = let (l, D, e) = led_to u k in
          entered-other u D.next D.path (distinct l D) D.leaves (sym (led_enters u l D) ∙ sym e)

      not_sender : In m.bridge (map to (led_from u)) → ⊥
      not_sender k = let (l, D, e) = led_to m.bridge k in
          first l D e (chosen-first (graph N) (key N) m.bridge D.receiver.bridge D.path D.chosen)
        where
          first : (l : Link) (D : Led u l) → m.bridge ≡ to l
              → ((t : List ℕ) × (D.path ≡ m.bridge ∷ t) × Least (graph N) m.bridge t D.receiver.bridge) → ⊥
          first l D e (t, f, W) =
              let d : Distinct (m.bridge ∷ t) = subst (λ (z : List ℕ). Distinct z) f (distinct l D) in
              let h : Leaves u D.next (m.bridge ∷ t) = subst (λ (z : List ℕ). Leaves u D.next z) f D.leaves in
              d.0 (subst (λ (z : ℕ). In z t) (sym (led_enters u l D) ∙ sym e) (entered-later u D.next m.bridge t h))

      below : (w : ℕ) → In w (u ∷ m.bridge ∷ map to (led_from u)) → w < size N
      below w (inl e) = rw e l
      below w (inr (inl e)) = rw e (N.laws.members.fits m of_table).bridge_known
      below w (inr (inr k)) = let (l, D, e) = led_to w k in
          subst (λ (z : ℕ). z < size N) (sym (e ∙ led_enters u l D))
          (entered-inside (graph N) (graph_meets N) u D.next (hop-joined (vid_plan N) (vid-laws N) u D.next l D.hop))
