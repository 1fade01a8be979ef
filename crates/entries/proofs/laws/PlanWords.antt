-- The words by the rows of a plan are those of the definitions (01, "Entries"). Assumes nothing.
use Prim.Native.Nat.{ℕ, ◌≤◌, ◌<◌}
use Rattle.std.proofs.Common.{arith, ◌∙◌, inr, eqb→eq, eq-eqb, ne_eqb}
use Rattle.std.specs.Prelude.{◌≡◌, ◌⊎◌, Bool, length}
use Rattle.std.proofs.Math.Path.{refl, sym, ap, subst}
use mathlib.Core.List.{List, [], ◌∷◌, ◌++◌, map, flat_map}
use Rattle.std.proofs.Math.Option.{Option, none, some}
use Rattle.std.proofs.Math.Logic.{inl}
use Rattle.std.proofs.Math.Bool.{true, false, cond, not}
use Rattle.std.proofs.Math.Dec.{eqb, eqb_refl}
use Rattle.std.proofs.Math.ListN.{get_or}
use Rattle.lists.specs.Lists.{rising, selected, any_passes}
use Rattle.lists.specs.Members.{In, EveryTwo}
use Rattle.lists.proofs.laws.NumberLaws.{same_or_not}
use Rattle.lists.proofs.laws.MemberLaws.{flat_map-in, in-flat_map}
use Rattle.lists.proofs.laws.SelectedLaws.{selected-in, in-selected, any-in, in-any, rising-in}
use Rattle.lists.proofs.laws.GivenLaws.{flat_map-map, flat_map-flat_map, flat_map-selected, flat_map-same, by_places, every-two-selected, every-two-rising, rising-same}
use Rattle.graph.proofs.laws.ChosenPaths.{chosen_stay, chosen-first}
use Rattle.rule.specs.Words.{words_of}
use Rattle.rule.specs.Records.{HalfLink, Bridge, Vid, Member, bridge_of, member_of, address, all_within, port_limits}
use Rattle.rule.specs.Plan.{Plan, no_bridge, bridge_at}
use Rattle.rule.specs.Links.{Link, hop_link, graph_of}
use Rattle.rule.proofs.laws.LinkLaws.{hop-takes}
use Rattle.rule.specs.Identifiers.{key_of}
use Rattle.rule.specs.Paths.{chosen_path}
use Rattle.rule.proofs.laws.Network.{chosen_is_path, path_is_chosen}
use Rattle.rule.specs.Entries.{entry_words, list_of, first_port, leaving_port, ports_of, individual_entry, individual_entries, group_address, receives, receiver_ports, listed_ports, group_entry, group_entries}
use Rattle.rule.proofs.laws.EntryLaws.{first-port-says, listed-port, port-listed}
use Rattle.rule.proofs.laws.ListedPorts.{leaving-says}
use Rattle.table.specs.declared.shape.Shape.{Shape}
use Rattle.table.specs.Positions.{members_from, records_at, plan_at}
use Rattle.table.proofs.laws.PositionLaws.{record-at, record-in}
use Rattle.egress.specs.Leaving.{number_of, port_on, EgressRow}
use Rattle.egress.proofs.laws.PlanPortLaws.{PlanPorts}
use Rattle.entry_codec.specs.Codec.{entry_with}
use Rattle.table.specs.Numbered.{bridge_number, member_number}
use Rattle.verdict.specs.Examination.{Checked}
use Rattle.verdict.proofs.laws.CheckedLaws.{bridges-counted}
use Rattle.entry_words.specs.Words.{individual_to, individual_words, behind_at, ports_behind, group_at, group_words}

-- The words of a VID's part of a bridge's list, and of the group entries for one transmitter.
abbrev pub vid_words : Plan → ℕ → Vid → List ℕ
vid_words p b v = flat_map entry_words (individual_entries p v b ++ group_entries p v b p.members)

abbrev pub member_words : Plan → ℕ → Vid → Member → List ℕ
member_words p b v m = flat_map entry_words (map (group_entry p v m) (listed_ports (receiver_ports p v b p.members m)))

listed-rises : (behind : List ℕ) → EveryTwo (λ x y. x < y) (listed_ports behind)
unfolding listed_ports
listed-rises behind = every-two-selected (λ x y. x < y) (λ port. any_passes (λ q. eqb q port) behind) (all_within port_limits) (every-two-rising 1 4095)

-- A path from a bridge leaves it by its first port.
leaves-start : (hs : List HalfLink) (b : ℕ) (t : List ℕ) → leaving_port hs b (b ∷ t) ≡ first_port hs (b ∷ t)
unfolding leaving_port
leaves-start hs b t = ap (λ (c : Bool). cond c (first_port hs (b ∷ t)) (leaving_port hs b t)) (eq-eqb b b refl)

number-zero : (o : Option ℕ) → ((q : ℕ) → o ≡ some q → 0 < q) → number_of o ≡ 0 → o ≡ none
number-zero none f e = refl
number-zero (some q) f e = absurd (omega (arith, f q refl))

module _ {t : List ℕ} {s : Shape} (R : Checked t s) where
  abbrev p : Plan
  p = plan_at (words_of t) s

  abbrev hs : List HalfLink
  hs = p.half_links

  pub bridge_is : (d : ℕ) → d < s.bridges → bridge_at p d ≡ bridge_number (words_of t) d
  bridge_is d l = record-at bridge_of 3 0 (words_of t) s.bridges d no_bridge l

  hop-port : (u v : ℕ) (l : Link) → hop_link hs u v ≡ some l → 0 < l.here.port
  hop-port u v l e = (R.laws.half_links.fits l.here (hop-takes hs u v l e).link.here_listed).least_port

  -- Individual entries

  module _ (v : Vid) (b : ℕ) {row : List ℕ} (W : EgressRow p v.index b b row) where
    -- What the definition gives for the bridge `d`.
    abbrev given_to : ℕ → List ℕ
    given_to d = flat_map entry_words (map (individual_entry p v d) (ports_of (first_port hs) (chosen_path p v.index b d)))

    row_self : b < s.bridges → get_or row b 0 ≡ 0
    row_self l =
        W.each b (omega (arith, bridges-counted R))
        ∙ ap (port_on hs b) (chosen_is_path p R.laws v.index b b (b ∷ []) (chosen_stay (graph_of p) (key_of p v.index) b))
        ∙ ap number_of (leaves-start hs b [])

    first-positive : (q : List ℕ) (port : ℕ) → first_port hs q ≡ some port → 0 < port
    first-positive q port e =
        let (u, w, z, l, f, g, h) = first-port-says hs q port (subst (λ (o : Option ℕ). In port (list_of o)) (sym e) (inl refl))
        in omega (arith, hop-port u w l g)

    to_none : (d : ℕ) → get_or row d 0 ≡ 0 → individual_to (words_of t) row v.vid d ≡ []
    unfolding individual_to
    to_none d e = rw (eq-eqb (get_or row d 0) 0 e)

    to_some : (d port : ℕ) → d < s.bridges → get_or row d 0 ≡ port → 0 < port → individual_to (words_of t) row v.vid d ≡ entry_words (individual_entry p v d port)
    unfolding individual_to
    to_some d port l e h =
        ap (λ (c : Bool). cond c [] (entry_words (entry_with 8 v.vid (get_or row d 0) (address (bridge_number (words_of t) d))))) (ne_eqb (get_or row d 0) 0 (λ z. omega arith))
        ∙ ap (λ (q : ℕ). entry_words (entry_with 8 v.vid q (address (bridge_number (words_of t) d)))) e
        ∙ ap (λ (x : Bridge). entry_words (entry_with 8 v.vid port (address x))) (sym (bridge_is d l))

    other-bridge : (d : ℕ) → d < s.bridges → individual_to (words_of t) row v.vid d ≡ given_to d
    unfolding flat_map
    other-bridge d l = by_path (chosen_path p v.index b d) refl
      where
        by_port_lem : (q : List ℕ) (o : Option ℕ) → first_port hs q ≡ o → get_or row d 0 ≡ number_of o
            → individual_to (words_of t) row v.vid d ≡ flat_map entry_words (map (individual_entry p v d) (list_of o))
        by_port_lem q none e f = to_none d f
        by_port_lem q (some port) e f = to_some d port l f (first-positive q port e)

        by_path : (o : Option (List ℕ)) → chosen_path p v.index b d ≡ o
            → individual_to (words_of t) row v.vid d ≡ flat_map entry_words (map (individual_entry p v d) (ports_of (first_port hs) o))
        by_path none e = to_none d (W.each d (omega (arith, bridges-counted R)) ∙ ap (port_on hs b) e)
        by_path (some q) e =
            let (z, f, g) = chosen-first (graph_of p) (key_of p v.index) b d q (path_is_chosen p R.laws v.index b d q e)
            in by_port_lem q (first_port hs q) refl
            (W.each d (omega (arith, bridges-counted R)) ∙ ap (port_on hs b) e ∙ ap (λ (x : List ℕ). number_of (leaving_port hs b x)) f
            ∙ ap number_of (leaves-start hs b z) ∙ ap (λ (x : List ℕ). number_of (first_port hs x)) (sym f))

    pub individual-words : b < s.bridges → individual_words (words_of t) s row v.vid ≡ flat_map entry_words (individual_entries p v b)
    unfolding individual_words individual_entries
    individual-words known =
        flat_map-same (individual_to (words_of t) row v.vid) (λ d. cond (not (eqb d b)) (given_to d) []) (rising 0 s.bridges)
        (λ d i. each d (omega (arith, (rising-in 0 s.bridges d i).1)) (same_or_not d b))
        ∙ ap (λ (n : ℕ). flat_map (λ d. cond (not (eqb d b)) (given_to d) []) (rising 0 n)) (sym (bridges-counted R))
        ∙ sym (flat_map-selected given_to (λ d. not (eqb d b)) (rising 0 (length p.bridges)))
        ∙ sym (flat_map-flat_map entry_words (λ d. map (individual_entry p v d) (ports_of (first_port hs) (chosen_path p v.index b d)))
        (selected (λ d. not (eqb d b)) (rising 0 (length p.bridges))))
      where
        each : (d : ℕ) → d < s.bridges → (d ≡ b) ⊎ (d ≡ b → ⊥) → individual_to (words_of t) row v.vid d ≡ cond (not (eqb d b)) (given_to d) []
        each d l (inl e) =
            to_none d (ap (λ (x : ℕ). get_or row x 0) e ∙ row_self known)
            ∙ sym (ap (λ (c : Bool). cond (not c) (given_to d) []) (eq-eqb d b e))
        each d l (inr n) = other-bridge d l ∙ sym (ap (λ (c : Bool). cond (not c) (given_to d) []) (ne_eqb d b n))

  -- Group entries

  module _ (v : Vid) (b : ℕ) (m : Member) {row : List ℕ} (W : EgressRow p v.index m.bridge b row) where
    abbrev passing : Member → List ℕ
    passing r = ports_of (leaving_port hs b) (chosen_path p v.index m.bridge r.bridge)

    member-known : (j : ℕ) → j < s.members → (member_number (words_of t) s j).bridge < length p.bridges
    member-known j l = (R.laws.members.fits (member_number (words_of t) s j) (record-in member_of 2 (members_from s) (words_of t) s.members j l)).bridge_known

    receivers_are : receiver_ports p v b p.members m ≡ flat_map (λ j. cond (receives m (member_number (words_of t) s j)) (passing (member_number (words_of t) s j)) []) (rising 0 s.members)
    unfolding receiver_ports records_at
    receivers_are =
        flat_map-selected passing (receives m) p.members
        ∙ flat_map-map (λ r. cond (receives m r) (passing r) []) (member_number (words_of t) s) (rising 0 s.members)

    from_row : (q : ℕ) (o : Option (List ℕ)) → 1 ≤ q → q ≡ port_on hs b o → In q (ports_of (leaving_port hs b) o)
    from_row q none l e = absurd (omega arith)
    from_row q (some path) l e = go (leaving_port hs b path) e
      where
        go : (o : Option ℕ) → q ≡ number_of o → In q (list_of o)
        go none e = omega arith
        go (some port) e = inl e

    to_row : (q : ℕ) (o : Option (List ℕ)) → In q (ports_of (leaving_port hs b) o) → q ≡ port_on hs b o
    to_row q none k = absurd k
    to_row q (some path) k = go (leaving_port hs b path) k
      where
        go : (o : Option ℕ) → In q (list_of o) → q ≡ number_of o
        go none k = absurd k
        go (some port) (inl e) = e
        go (some port) (inr k) = absurd k

    -- The same ports, but for the receivers whose path does not pass.
    behind-received : (q : ℕ) → 1 ≤ q → In q (ports_behind (words_of t) s row m) → In q (receiver_ports p v b p.members m)
    unfolding ports_behind behind_at
    behind-received q l k =
        let (j, i, h) = flat_map-in (behind_at (words_of t) s row m) q (rising 0 s.members) k
        in subst (λ (x : List ℕ). In q x) (sym receivers_are)
        (in-flat_map (λ j. cond (receives m (member_number (words_of t) s j)) (passing (member_number (words_of t) s j)) []) q j (rising 0 s.members) i
        (go j (omega (arith, (rising-in 0 s.members j i).1)) (receives m (member_number (words_of t) s j)) h))
      where
        go : (j : ℕ) → j < s.members → (c : Bool) → In q (cond c (get_or row (member_number (words_of t) s j).bridge 0 ∷ []) [])
            → In q (cond c (passing (member_number (words_of t) s j)) [])
        go j g true (inl e) = from_row q (chosen_path p v.index m.bridge (member_number (words_of t) s j).bridge) l (e ∙ W.each (member_number (words_of t) s j).bridge (member-known j g))
        go j g true (inr h) = absurd h
        go j g false h = absurd h

    received-behind : (q : ℕ) → In q (receiver_ports p v b p.members m) → In q (ports_behind (words_of t) s row m)
    unfolding ports_behind behind_at
    received-behind q k =
        let (j, i, h) = flat_map-in (λ j. cond (receives m (member_number (words_of t) s j)) (passing (member_number (words_of t) s j)) []) q (rising 0 s.members)
        (subst (λ (x : List ℕ). In q x) receivers_are k)
        in in-flat_map (behind_at (words_of t) s row m) q j (rising 0 s.members) i
        (go j (omega (arith, (rising-in 0 s.members j i).1)) (receives m (member_number (words_of t) s j)) h)
      where
        go : (j : ℕ) → j < s.members → (c : Bool) → In q (cond c (passing (member_number (words_of t) s j)) [])
            → In q (cond c (get_or row (member_number (words_of t) s j).bridge 0 ∷ []) [])
        go j g true h = inl (to_row q (chosen_path p v.index m.bridge (member_number (words_of t) s j).bridge) h ∙ sym (W.each (member_number (words_of t) s j).bridge (member-known j g)))
        go j g false h = absurd h

    -- A receiver's port is one of the bridge's own.
    own-port : {ports : List ℕ} → PlanPorts p b ports → (q : ℕ) → In q (receiver_ports p v b p.members m) → In q ports
    unfolding receiver_ports
    own-port {ports} P q k =
        let (r, i, h) = flat_map-in passing q (selected (receives m) p.members) k
        in by_path (chosen_path p v.index m.bridge r.bridge) h
      where
        by_path : (o : Option (List ℕ)) → In q (ports_of (leaving_port hs b) o) → In q ports
        by_path none h = absurd h
        by_path (some path) h = by_port_lem (leaving_port hs b path) refl h
          where
            by_port_lem : (o : Option ℕ) → leaving_port hs b path ≡ o → In q (list_of o) → In q ports
            by_port_lem none e h = absurd h
            by_port_lem (some port) e (inl f) =
                let (w, l, x, g, y) = leaving-says hs b port path e
                in subst (λ (z : ℕ). In z ports) (sym (f ∙ y)) (P.all w l g)
            by_port_lem (some port) e (inr h) = absurd h

    -- "a port is listed as soon as one receiver behind it is found".
    listed_are : {ports : List ℕ} → PlanPorts p b ports
        → selected (λ port. any_passes (λ q. eqb q port) (ports_behind (words_of t) s row m)) ports ≡ listed_ports (receiver_ports p v b p.members m)
    listed_are {ports} P =
        rising-same (selected found ports) (listed_ports received) (every-two-selected (λ x y. x < y) found ports P.rises) (listed-rises received) forth back
      where
        behind : List ℕ
        behind = ports_behind (words_of t) s row m

        received : List ℕ
        received = receiver_ports p v b p.members m

        found : ℕ → Bool
        found port = any_passes (λ q. eqb q port) (ports_behind (words_of t) s row m)

        forth : (q : ℕ) → In q (selected found ports) → In q (listed_ports received)
        forth q k =
            let (i, h) = selected-in found q ports k
            in let (x, j, e) = any-in (λ x. eqb x q) (ports_behind (words_of t) s row m) h
            in let (g, y) = P.fits q i
            in port-listed received q g y (behind-received q g (subst (λ (z : ℕ). In z (ports_behind (words_of t) s row m)) (eqb→eq x q e) j))

        back : (q : ℕ) → In q (listed_ports received) → In q (selected found ports)
        back q k =
            let (g, y, i) = listed-port received q k
            in in-selected found q ports (own-port P q i) (in-any (λ x. eqb x q) q (ports_behind (words_of t) s row m) (received-behind q i) (eqb_refl q))

    pub group-words : {ports : List ℕ} → PlanPorts p b ports
        → group_words ports (ports_behind (words_of t) s row m) v.vid (group_address (bridge_at p m.bridge).sp_source_id m.isid) ≡ member_words p b v m
    unfolding group_words group_at
    group-words {ports} P =
        sym (flat_map-map by_port (λ i. get_or ports i 0) (rising 0 (length ports)))
        ∙ ap (flat_map by_port) (by_places ports 0)
        ∙ sym (flat_map-selected (λ port. entry_words (group_entry p v m port)) (λ port. any_passes (λ q. eqb q port) (ports_behind (words_of t) s row m)) ports)
        ∙ ap (flat_map (λ port. entry_words (group_entry p v m port))) (listed_are P)
        ∙ sym (flat_map-map entry_words (group_entry p v m) (listed_ports (receiver_ports p v b p.members m)))
      where
        by_port : ℕ → List ℕ
        by_port port = cond (any_passes (λ q. eqb q port) (ports_behind (words_of t) s row m)) (entry_words (group_entry p v m port)) []
