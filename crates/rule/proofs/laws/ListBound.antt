-- "No bridge's list exceeds 14,931 words" (01, "Entries"): at most 16 times 63 individual entries and 63 times 63 group entries of three
-- words each. A bridge has an individual entry for each other bridge and VID at most. For a transmitting member at another bridge each
-- listed port leads to a bridge that is neither this one nor the sender, so there are 62 at most. The transmitting members at this bridge
-- are of different services, so their receivers are different members at other bridges. With `r` members at other bridges that makes at
-- most 62 r group entries, and r more where a transmitting member is at this bridge, which leaves 63 for r. Assumes nothing.
use Rattle.std.specs.Prelude.{ℕ, ◌+◌, ◌*◌, ◌≤◌, ◌<◌, ◌≡◌, refl, ◌⊎◌, Bool, cond, eqb}
use native.Mathlib.Omega.{arith}
use Rattle.std.proofs.Common.{sym, ap, ◌∙◌, subst, inl, inr, eqb→eq}
use mathlib.Core.List.{List, [], ◌∷◌, ◌++◌, map, flat_map}
use Rattle.std.proofs.Math.Option.{Option, none, some}
use Rattle.std.proofs.Math.Bool.{not}
use Rattle.std.proofs.Math.Dec.{T_not, not_T}
use Rattle.std.proofs.Math.ListN.{length, length-append, length-map}
use Rattle.lists.specs.Lists.{rising, selected}
use Rattle.lists.specs.Members.{In, sum_over}
use Rattle.lists.proofs.laws.ListNotions.{Distinct}
use Rattle.lists.proofs.laws.NumberLaws.{same_or_not, last_of, is_true, is_false, eq_eqb}
use Rattle.lists.proofs.laws.MemberLaws.{in_split, flat_map-in}
use Rattle.lists.proofs.laws.SelectedLaws.{selected-in, in-selected, rising-in}
use Rattle.lists.proofs.laws.DistinctLaws.{at_most, distinct-selected, distinct-rising, distinct-flat_map, distinct-within, selected-parts}
use Rattle.lists.proofs.laws.GivenLaws.{length-flat_map-each}
use Rattle.lists.proofs.laws.SumLaws.{sum_add, sum_most, sum_bounded, sum_parts, sum_flat_map, length-flat_map, length-flat_map-most}
use Rattle.rule.specs.Records.{Vid, Member}
use Rattle.rule.specs.Plan.{Plan, plan_of_vid}
use Rattle.rule.specs.Paths.{chosen_path}
use Rattle.rule.specs.Entries.{entry_words, list_of, first_port, leaving_port, ports_of, individual_entry, individual_entries, receives, receiver_ports, group_entry, group_entries, entries_of, entry_list_of}
use Rattle.rule.specs.PlanLaws.{PlanLaws}
use Rattle.rule.proofs.laws.OneRecord.{distinct-vids, one-vid, distinct-members, one-member}
use Rattle.rule.proofs.laws.EntryLaws.{ports_to, ports_behind, others, transmits, listed-port, distinct-ports, receives-says}
use Rattle.rule.proofs.laws.Network.{Network}
use Rattle.rule.proofs.laws.ListedPorts.{few_ports}

at_most_one : (port : List ℕ → Option ℕ) (o : Option (List ℕ)) → length (ports_of port o) ≤ 1
at_most_one port none = omega arith
at_most_one port (some path) = go (port path)
  where
    go : (o : Option ℕ) → length (list_of o) ≤ 1
    go none = omega arith
    go (some n) = omega arith

module _ (p : Plan) (L : PlanLaws p) (b : ℕ) (known : b < length p.bridges) where
  -- An individual entry for each other bridge at most.
  few-individual : (v : Vid) → length (individual_entries (plan_of_vid p v) v b) ≤ 63
  unfolding individual_entries
  few-individual v = omega (
    arith,
    L.bridges.few,
    length-flat_map-most (λ d. map (individual_entry p v d) (ports_to (plan_of_vid p v) v b d)) 1 (others p v b) (λ d k.
        omega (
          arith,
          length-map (ports_to (plan_of_vid p v) v b d) (individual_entry p v d),
          at_most_one (first_port (plan_of_vid p v).half_links) (chosen_path (plan_of_vid p v) v.index b d),
        )),
    at_most (length p.bridges) (b ∷ others p v b)
        (not_self, distinct-selected (λ d. not (eqb d b)) (rising 0 (length p.bridges)) (distinct-rising 0 (length p.bridges))) below,
  )
    where
      not_self : In b (others p v b) → ⊥
      not_self k = T_not (eqb b b) (selected-in (λ d. not (eqb d b)) b (rising 0 (length p.bridges)) k).1 (eq_eqb b b refl)

      below : (d : ℕ) → In d (b ∷ others p v b) → d < length p.bridges
      below d (inl e) = rw e known
      below d (inr k) = omega (
        arith,
        (rising-in 0 (length p.bridges) d (selected-in (λ d. not (eqb d b)) d (rising 0 (length p.bridges)) k).0).1,
      )

  -- The members at this bridge and the others.
  abbrev at_this : Member → Bool
  at_this m = eqb m.bridge b

  -- How many ports can be listed for a transmitting member: one for each receiver of its service where the member is at this bridge,
  -- and 62 where it is at another.
  unfoldable most : Member → ℕ
  most m = cond (eqb m.bridge b) (length (selected (receives m) p.members)) 62

  most-here : (m : Member) → m.bridge ≡ b → most m ≡ length (selected (receives m) p.members)
  unfolding most
  most-here m e = rw (is_true (eqb m.bridge b) (eq_eqb m.bridge b e))

  most-there : (m : Member) → (m.bridge ≡ b → ⊥) → most m ≡ 62
  unfolding most
  most-there m f = rw (is_false (eqb m.bridge b) (λ t. f (eqb→eq m.bridge b t)))

  -- The plan with its own words.
  abbrev net : (v : Vid) → In v p.vids → Network
  net v k = record { plan = p; laws = L; vid = v; of_plan = k; lists = entry_list_of p; written = λ u l. refl }

  few-listed : (v : Vid) → In v p.vids → (m : Member) → In m p.members → length (ports_behind (plan_of_vid p v) v b m) ≤ most m
  unfolding receiver_ports
  few-listed v i m k = go (same_or_not m.bridge b)
    where
      go : (m.bridge ≡ b) ⊎ (m.bridge ≡ b → ⊥) → length (ports_behind (plan_of_vid p v) v b m) ≤ most m
      go (inl e) = omega (
        arith,
        most-here m e,
        distinct-within (ports_behind (plan_of_vid p v) v b m) (receiver_ports (plan_of_vid p v) v b p.members m) (distinct-ports (receiver_ports (plan_of_vid p v) v b p.members m))
            (λ port i. (listed-port (receiver_ports (plan_of_vid p v) v b p.members m) port i).2),
        length-flat_map-most (λ r. ports_of (leaving_port (plan_of_vid p v).half_links b) (chosen_path (plan_of_vid p v) v.index m.bridge r.bridge)) 1
            (selected (receives m) p.members)
            (λ r i. at_most_one (leaving_port (plan_of_vid p v).half_links b) (chosen_path (plan_of_vid p v) v.index m.bridge r.bridge)),
      )
      go (inr f) = omega (arith, most-there m f, few_ports (net v i) m k b known (λ e. f (sym e)), L.bridges.few)

  -- The transmitting members of all VIDs: each is a member of one VID.
  abbrev transmitters : List Member
  transmitters = flat_map (λ v. selected (transmits p v b) p.members) p.vids

  transmitter_vid : (v : Vid) (m : Member) → In m (selected (transmits p v b) p.members) → In m p.members × (m.vid ≡ v.vid)
  transmitter_vid v m k = let r = selected-in (transmits p v b) m p.members k in
      (r.0, eqb→eq m.vid v.vid (last_of m.transmits (eqb m.vid v.vid) r.1))

  distinct-transmitters : Distinct transmitters
  distinct-transmitters = distinct-flat_map (λ v. selected (transmits p v b) p.members) p.vids
      (distinct-vids p L)
      (λ v k. distinct-selected (transmits p v b) p.members (distinct-members p L))
      (λ v w m i j h k. one-vid p L v w i j (sym (transmitter_vid v m h).1 ∙ (transmitter_vid w m k).1))

  transmitter_listed : (m : Member) → In m transmitters → In m p.members
  transmitter_listed m k = let (v, i, j) = flat_map-in (λ v. selected (transmits p v b) p.members) m p.vids k in (transmitter_vid v m j).0

  abbrev here : List Member → List Member
  here ms = selected at_this ms

  abbrev elsewhere : List Member → List Member
  elsewhere ms = selected (λ m. not (at_this m)) ms

  here-says : (m : Member) (ms : List Member) → In m (here ms) → In m ms × (m.bridge ≡ b)
  here-says m ms k = let r = selected-in at_this m ms k in (r.0, eqb→eq m.bridge b r.1)

  -- The receivers of the transmitting members at this bridge: each is another bridge's member, and of one service only.
  few-here : sum_over most (here transmitters) ≤ length (elsewhere p.members)
  few-here = omega (
    arith,
    sum_most most (λ m. length (selected (receives m) p.members)) (here transmitters)
        (λ m k. omega (arith, most-here m (here-says m transmitters k).1)),
    length-flat_map (λ m. selected (receives m) p.members) (here transmitters),
    distinct-within (flat_map (λ m. selected (receives m) p.members) (here transmitters)) (elsewhere p.members) distinct inside,
  )
    where
      listed : (m : Member) → In m (here transmitters) → In m p.members
      listed m k = transmitter_listed m (here-says m transmitters k).0

      distinct : Distinct (flat_map (λ m. selected (receives m) p.members) (here transmitters))
      distinct = distinct-flat_map (λ m. selected (receives m) p.members) (here transmitters)
          (distinct-selected at_this transmitters distinct-transmitters)
          (λ m k. distinct-selected (receives m) p.members (distinct-members p L))
          (λ m k r i j h l.
          let x = receives-says m r (selected-in (receives m) r p.members h).1 in
          let y = receives-says k r (selected-in (receives k) r p.members l).1 in
          one-member p L m k (listed m i) (listed k j) ((here-says m transmitters i).1 ∙ sym (here-says k transmitters j).1) (sym x.1 ∙ y.1)
          (sym x.2 ∙ y.2))

      inside : (r : Member) → In r (flat_map (λ m. selected (receives m) p.members) (here transmitters)) → In r (elsewhere p.members)
      inside r k =
          let (m, i, j) = flat_map-in (λ m. selected (receives m) p.members) r (here transmitters) k in
          let x = selected-in (receives m) r p.members j in
          in-selected (λ m. not (at_this m)) r p.members x.0
          (not_T (at_this r) (λ t. (receives-says m r x.1).3 (eqb→eq r.bridge b t ∙ sym (here-says m transmitters i).1)))

  few-elsewhere : sum_over most (elsewhere transmitters) ≤ length (elsewhere p.members) * 62
  few-elsewhere = omega (
    arith,
    sum_bounded most 62 (elsewhere transmitters) (λ m k. omega (
      arith,
      most-there m (λ e.
          T_not (at_this m) (selected-in (λ m. not (at_this m)) m transmitters k).1 (eq_eqb m.bridge b e)),
    )),
    distinct-within (elsewhere transmitters) (elsewhere p.members) (distinct-selected (λ m. not (at_this m)) transmitters distinct-transmitters)
        (λ m k. let r = selected-in (λ m. not (at_this m)) m transmitters k in
        in-selected (λ m. not (at_this m)) m p.members (transmitter_listed m r.0) r.1),
  )

  -- 63 times 63 group entries at most: with a transmitting member at this bridge at most 63 members are elsewhere.
  few-group : sum_over most transmitters ≤ 3969
  few-group = go (here transmitters) refl
    where
      go : (ms : List Member) → here transmitters ≡ ms → sum_over most transmitters ≤ 3969
      go [] e = omega (
        arith,
        sum_parts most at_this transmitters,
        ap (sum_over most) e,
        few-elsewhere,
        selected-parts at_this p.members,
        L.members.few,
      )
      go (m ∷ ms) e =
          let k = here-says m transmitters (subst (λ (z : List Member). In m z) (sym e) (inl refl)) in
          let (xs, ys, f) = in_split m (here p.members)
          (in-selected at_this m p.members (transmitter_listed m k.0) (eq_eqb m.bridge b k.1)) in
          omega (
            arith,
            sum_parts most at_this transmitters,
            few-here,
            few-elsewhere,
            selected-parts at_this p.members,
            L.members.few,
            ap (λ (z : List Member). length z) f,
            length-append xs (m ∷ ys),
          )

  group_entries_lem : (v : Vid) → In v p.vids → length (group_entries (plan_of_vid p v) v b p.members) ≤ sum_over most (selected (transmits p v b) p.members)
  unfolding group_entries
  group_entries_lem v i = omega (
    arith,
    length-flat_map (λ m. map (group_entry p v m) (ports_behind (plan_of_vid p v) v b m)) (selected (transmits p v b) p.members),
    sum_most (λ m. length (map (group_entry p v m) (ports_behind (plan_of_vid p v) v b m))) most (selected (transmits p v b) p.members)
        (λ m k. omega (arith, length-map (ports_behind (plan_of_vid p v) v b m) (group_entry p v m), few-listed v i m (transmitter_vid v m k).0)),
  )

  -- "No bridge's list exceeds 14,931 words."
  pub few_words : length (entry_list_of p b) ≤ 14931
  unfolding entry_list_of entries_of
  few_words = omega (
    arith,
    length-flat_map-each entry_words 3 (entries_of p b) (λ e k. refl),
    length-flat_map (λ v. individual_entries (plan_of_vid p v) v b ++ group_entries (plan_of_vid p v) v b p.members) p.vids,
    sum_most (λ v. length (individual_entries (plan_of_vid p v) v b ++ group_entries (plan_of_vid p v) v b p.members))
        (λ v. 63 + sum_over most (selected (transmits p v b) p.members)) p.vids
        (λ v k. omega (arith, length-append (individual_entries (plan_of_vid p v) v b) (group_entries (plan_of_vid p v) v b p.members), few-individual v, group_entries_lem v k)),
    sum_add (λ v. 63) (λ v. sum_over most (selected (transmits p v b) p.members)) p.vids,
    sum_bounded (λ v. 63) 63 p.vids (λ v k. omega arith),
    sum_flat_map most (λ v. selected (transmits p v b) p.members) p.vids,
    few-group,
    L.vids.few,
  )
