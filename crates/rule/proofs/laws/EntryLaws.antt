-- The entries of a bridge of an accepted plan, read back from the words (01, "Entries"): an entry's three words give it back, and the
-- entries with a VID and an address are those of one other bridge, or of one transmitting member. Assumes nothing.
use Prim.Native.Nat.{ℕ, ◌+◌, ◌*◌, ◌/◌, ◌%◌, ◌^◌, ◌≤◌, ◌<◌}
use Rattle.std.proofs.Common.{arith, sym, ◌∙◌, subst, inl, inr, eqb→eq, T_not}
use Rattle.std.specs.Prelude.{◌≡◌, refl, ◌⊎◌, true, not, ◌&&◌, eqb, length}
use Rattle.std.proofs.Math.Path.{ap}
use mathlib.Core.List.{List, [], ◌∷◌, ◌++◌, map, flat_map, append-nil}
use Rattle.std.proofs.Math.Option
use Rattle.std.proofs.Math.Option.{Option, none, some}
use Rattle.std.proofs.Math.Bool.{Bool}
use Rattle.std.proofs.Math.Dec.{T, not_T}
use Rattle.lists.specs.Lists.{rising, selected, any_passes}
use Rattle.lists.specs.Members.{In}
use Rattle.lists.proofs.laws.ListNotions.{Distinct}
use Rattle.lists.proofs.laws.NumberLaws.{both, first_of, last_of, equal-three, three-equal, is_true, true-test, eq_eqb}
use Rattle.lists.proofs.laws.MemberLaws.{in_append, map-in, flat_map-in}
use Rattle.lists.proofs.laws.SelectedLaws.{selected-in, in-selected, any-in, in-any, in-rising, rising-in}
use Rattle.lists.proofs.laws.DistinctLaws.{distinct-selected, distinct-rising, selected-none, selected_append}
use Rattle.lists.proofs.laws.GivenLaws.{selected-flat_map, selected-flat_map-only, flat_map-only, map_back}
use Rattle.rule.specs.Records.{HalfLink, Vid, Member, address, group_bit}
use Rattle.rule.specs.Plan.{Plan, bridge_at, plan_of_vid}
use Rattle.rule.specs.Links.{Link, hop_link}
use Rattle.rule.specs.Paths.{chosen_path}
use Rattle.rule.specs.Entries.{Entry, entry_words, list_of, first_port, ports_of, individual_entry, individual_entries, group_address, receives, receiver_ports, listed_ports, group_entry, group_entries, entries_of, entry_list_of}
use Rattle.rule.specs.Lookup.{entry_of, entries_in}
use Rattle.rule.specs.Frames.{entry_ports}
use Rattle.rule.specs.PlanLaws.{VidFits, PlanLaws}
use Rattle.rule.proofs.laws.VidPlan.{vid-plan-laws}
use Rattle.rule.proofs.laws.OneRecord.{listed-bridge, one_address, one-source, distinct-vids, one-vid, distinct-members, one-member}
use Rattle.rule.proofs.laws.LinkLaws.{hop-takes}

-- Words

-- An entry within its ranges, whose kind agrees with the group bit of its address.
pub record EntryFits (e : Entry) : Type 0 where
  pub kind : e.kind ≡ 8 + group_bit e.address
  pub least_vid : 1 ≤ e.vid
  pub vid : e.vid ≤ 4094
  pub least_port : 1 ≤ e.port
  pub port : e.port ≤ 4095
  pub address : e.address < 2 ^ 48

-- "An entry is 3 words": they give it back.
pub entry-decoded : (e : Entry) → EntryFits e
    → entry_of (e.kind * 2 ^ 28 + e.vid * 2 ^ 16 + e.port) (e.address / 2 ^ 32) (e.address % 2 ^ 32) ≡ e
entry-decoded e F = λ i. record { kind = kind i; vid = vid i; port = port i; address = addr i }
  where
    w : ℕ
    w = e.kind * 2 ^ 28 + e.vid * 2 ^ 16 + e.port

    kind : w / 2 ^ 28 % 2 ^ 4 ≡ e.kind
    kind = omega (arith, F.kind, F.vid, F.port)

    vid : w / 2 ^ 16 % 2 ^ 12 ≡ e.vid
    vid = omega (arith, F.kind, F.vid, F.port)

    port : w / 2 ^ 0 % 2 ^ 16 ≡ e.port
    port = omega (arith, F.kind, F.vid, F.port)

    addr : e.address / 2 ^ 32 / 2 ^ 0 % 2 ^ 16 * 2 ^ 32 + e.address % 2 ^ 32 ≡ e.address
    addr = omega (arith, F.address)

pub entries_decoded : (es : List Entry) → ((e : Entry) → In e es → EntryFits e) → entries_in (flat_map entry_words es) ≡ es
unfolding entries_in flat_map
entries_decoded [] f = refl
entries_decoded (e ∷ es) f = λ i. entry-decoded e (f e (inl refl)) i ∷ entries_decoded es (λ d k. f d (inr k)) i

-- Group addresses

-- The group address tells SPsourceID and I-SID.
group-address-says : (s t i j : ℕ) → s ≤ 1048575 → t ≤ 1048575 → i ≤ 16777214 → j ≤ 16777214 → group_address s i ≡ group_address t j
    → (s ≡ t) × (i ≡ j)
group-address-says s t i j a b c d e = omega arith

-- The ports of a path

module _ (hs : List HalfLink) where
  -- The first port of a path is the near port of the link that its first hop takes.
  pub first-port-says : (path : List ℕ) (port : ℕ) → In port (list_of (first_port hs path))
      → (u : ℕ) × (v : ℕ) × (t : List ℕ) × (l : Link) × (path ≡ u ∷ v ∷ t) × (hop_link hs u v ≡ some l) × (port ≡ l.here.port)
  first-port-says [] port k = absurd k
  first-port-says (u ∷ []) port k = absurd k
  first-port-says (u ∷ v ∷ t) port k = go (hop_link hs u v) refl k
    where
      go : (o : Option Link) → hop_link hs u v ≡ o → In port (list_of (Option.map (λ l. l.here.port) o))
          → (u' : ℕ) × (v' : ℕ) × (t' : List ℕ) × (l : Link) × (u ∷ v ∷ t ≡ u' ∷ v' ∷ t') × (hop_link hs u' v' ≡ some l) × (port ≡ l.here.port)
      go none e k = absurd k
      go (some l) e (inl f) = (u, v, t, l, refl, e, f)
      go (some l) e (inr k) = absurd k

-- "ports rising: a port is listed as soon as one receiver behind it is found": a listed port is in range and was found, none is listed
-- twice, and every port in range that was found is listed.
pub listed-port : (behind : List ℕ) (port : ℕ) → In port (listed_ports behind) → (1 ≤ port) × (port ≤ 4095) × In port behind
unfolding listed_ports
listed-port behind port k =
    let r = selected-in (λ port. any_passes (λ q. eqb q port) behind) port _ k in
    let s = rising-in _ _ port r.0 in
    let (q, i, j) = any-in (λ q. eqb q port) behind r.1 in
    (s.0, omega (arith, s.1), subst (λ (z : ℕ). In z behind) (eqb→eq q port j) i)

pub distinct-ports : (behind : List ℕ) → Distinct (listed_ports behind)
unfolding listed_ports
distinct-ports behind = distinct-selected (λ port. any_passes (λ q. eqb q port) behind) _ (distinct-rising _ _)

pub port-listed : (behind : List ℕ) (port : ℕ) → 1 ≤ port → port ≤ 4095 → In port behind → In port (listed_ports behind)
unfolding listed_ports
port-listed behind port l g k =
    in-selected (λ port. any_passes (λ q. eqb q port) behind) port _ (in-rising _ _ port l (omega arith))
    (in-any (λ q. eqb q port) port behind k (eq_eqb port port refl))

-- "another bridge with R in the same I-SID and VID".
pub receives-says : (m r : Member) → T (receives m r)
    → (r.receives ≡ true) × (r.isid ≡ m.isid) × (r.vid ≡ m.vid) × (r.bridge ≡ m.bridge → ⊥)
receives-says m r t =
    let x = first_of (r.receives && eqb r.isid m.isid && eqb r.vid m.vid) (not (eqb r.bridge m.bridge)) t in
    let y = first_of (r.receives && eqb r.isid m.isid) (eqb r.vid m.vid) x in (
      is_true r.receives (first_of r.receives (eqb r.isid m.isid) y),
      eqb→eq r.isid m.isid (last_of r.receives (eqb r.isid m.isid) y),
      eqb→eq r.vid m.vid (last_of (r.receives && eqb r.isid m.isid) (eqb r.vid m.vid) x),
      λ e. T_not (eqb r.bridge m.bridge)
          (last_of (r.receives && eqb r.isid m.isid && eqb r.vid m.vid) (not (eqb r.bridge m.bridge)) t)
          (eq_eqb r.bridge m.bridge e),
    )

pub says-receives : (m r : Member) → r.receives ≡ true → r.isid ≡ m.isid → r.vid ≡ m.vid → (r.bridge ≡ m.bridge → ⊥) → T (receives m r)
says-receives m r t i v n =
    both (r.receives && eqb r.isid m.isid && eqb r.vid m.vid) (not (eqb r.bridge m.bridge))
    (both (r.receives && eqb r.isid m.isid) (eqb r.vid m.vid)
    (both r.receives (eqb r.isid m.isid) (true-test r.receives t) (eq_eqb r.isid m.isid i))
    (eq_eqb r.vid m.vid v))
    (not_T (eqb r.bridge m.bridge) (λ t. n (eqb→eq r.bridge m.bridge t)))

-- The entries, one by one

abbrev matches : ℕ → ℕ → ℕ → Entry → Bool
matches kind vid addr e = eqb e.kind kind && eqb e.vid vid && eqb e.address addr

matches-says : (kind vid addr : ℕ) (e : Entry) → T (matches kind vid addr e) → (e.kind ≡ kind) × (e.vid ≡ vid) × (e.address ≡ addr)
matches-says kind vid addr e t = three-equal e.kind kind e.vid vid e.address addr t

says-matches : (kind vid addr : ℕ) (e : Entry) → e.kind ≡ kind → e.vid ≡ vid → e.address ≡ addr → T (matches kind vid addr e)
says-matches kind vid addr e i j k = equal-three e.kind kind e.vid vid e.address addr i j k

module _ (p : Plan) (v : Vid) (b : ℕ) where
  -- The other bridges by number, and the ports of the entry for one of them: one, or none where no path leads there.
  abbrev pub others : List ℕ
  others = selected (λ d. not (eqb d b)) (rising 0 (length p.bridges))

  abbrev pub ports_to : ℕ → List ℕ
  ports_to d = ports_of (first_port p.half_links) (chosen_path p v.index b d)

  -- The transmitting members of the VID, and the ports listed for one of them.
  abbrev pub transmits : Member → Bool
  transmits m = m.transmits && eqb m.vid v.vid

  abbrev pub ports_behind : Member → List ℕ
  ports_behind m = listed_ports (receiver_ports p v b p.members m)

  individual-says : (e : Entry) → In e (individual_entries p v b)
      → (d : ℕ) × (port : ℕ) × In d others × In port (ports_to d) × (e ≡ individual_entry p v d port)
  unfolding individual_entries
  individual-says e k = go (flat_map-in (λ d. map (individual_entry p v d) (ports_to d)) e others k)
    where
      go : ((d : ℕ) × In d others × In e (map (individual_entry p v d) (ports_to d)))
          → (d : ℕ) × (port : ℕ) × In d others × In port (ports_to d) × (e ≡ individual_entry p v d port)
      go (d, i, j) = let (port, k, f) = map-in (individual_entry p v d) e (ports_to d) j in (d, port, i, k, f)

  group-says : (e : Entry) → In e (group_entries p v b p.members)
      → (m : Member) × (port : ℕ) × In m p.members × T (transmits m) × In port (ports_behind m) × (e ≡ group_entry p v m port)
  unfolding group_entries
  group-says e k = go (flat_map-in (λ m. map (group_entry p v m) (ports_behind m)) e (selected transmits p.members) k)
    where
      go : ((m : Member) × In m (selected transmits p.members) × In e (map (group_entry p v m) (ports_behind m)))
          → (m : Member) × (port : ℕ) × In m p.members × T (transmits m) × In port (ports_behind m) × (e ≡ group_entry p v m port)
      go (m, i, j) = let (port, k, f) = map-in (group_entry p v m) e (ports_behind m) j in let r = selected-in transmits m p.members i in
          (m, port, r.0, r.1, k, f)

-- The words of a bridge give its entries back

module _ (p : Plan) (L : PlanLaws p) where
  port-to-fits : (v : Vid) (b d port : ℕ) → In port (ports_to p v b d) → (1 ≤ port) × (port ≤ 4095)
  port-to-fits v b d port k = go (chosen_path p v.index b d) k
    where
      go : (o : Option (List ℕ)) → In port (ports_of (first_port p.half_links) o) → (1 ≤ port) × (port ≤ 4095)
      go none k = absurd k
      go (some path) k = let (u, w, t, l, e, f, g) = first-port-says p.half_links path port k in
          let F = L.half_links.fits l.here (hop-takes p.half_links u w l f).link.here_listed in
          (omega (arith, F.least_port), omega (arith, F.greatest_port))

  individual-fits : (v : Vid) (b : ℕ) → VidFits v → (e : Entry) → In e (individual_entries p v b) → EntryFits e
  individual-fits v b F e k = let (d, port, i, j, f) = individual-says p v b e k in
      let l = rising-in 0 (length p.bridges) d (selected-in (λ d. not (eqb d b)) d (rising 0 (length p.bridges)) i).0 in
      let g = (L.bridges.fits (bridge_at p d) (listed-bridge p L d (omega (arith, l.1)))).individual in
      subst (λ (z : Entry). EntryFits z) (sym f)
      (record {
        kind = omega (arith, g);
        least_vid = F.least;
        vid = F.greatest;
        least_port = (port-to-fits v b d port j).0;
        port = (port-to-fits v b d port j).1;
        address = omega arith;
      })

  group-fits : (v : Vid) (b : ℕ) → VidFits v → (e : Entry) → In e (group_entries p v b p.members) → EntryFits e
  group-fits v b F e k = let (m, port, i, t, j, f) = group-says p v b e k in
      let M = L.members.fits m i in
      let s : (bridge_at p m.bridge).sp_source_id ≤ 1048575 = (L.bridges.fits (bridge_at p m.bridge)
      (listed-bridge p L m.bridge M.bridge_known)).greatest_source in
      let P = listed-port (receiver_ports p v b p.members m) port j in
      subst (λ (z : Entry). EntryFits z) (sym f)
      (record {
        kind = omega (arith, M.isid);
        least_vid = F.least;
        vid = F.greatest;
        least_port = P.0;
        port = P.1;
        address = omega (arith, M.isid);
      })

module _ (p : Plan) (L : PlanLaws p) where
  pub entry-fits : (b : ℕ) (e : Entry) → In e (entries_of p b) → EntryFits e
  unfolding entries_of
  entry-fits b e k = let (v, i, j) = flat_map-in (λ v. individual_entries (plan_of_vid p v) v b ++ group_entries (plan_of_vid p v) v b p.members) e p.vids k in
      go v (L.vids.fits v i) (in_append e (individual_entries (plan_of_vid p v) v b) (group_entries (plan_of_vid p v) v b p.members) j)
    where
      go : (v : Vid) → VidFits v → In e (individual_entries (plan_of_vid p v) v b) ⊎ In e (group_entries (plan_of_vid p v) v b p.members) → EntryFits e
      go v l (inl k) = individual-fits (plan_of_vid p v) (vid-plan-laws p L v) v b l e k
      go v l (inr k) = group-fits (plan_of_vid p v) (vid-plan-laws p L v) v b l e k

  -- What is read from the words of a bridge.
  entries_read : (kind vid addr b : ℕ)
      → entry_ports kind vid addr (entry_list_of p b) ≡ map (λ e. e.port) (selected (matches kind vid addr) (entries_of p b))
  unfolding entry_ports entry_list_of
  entries_read kind vid addr b = ap (λ (es : List Entry). map (λ e. e.port) (selected (matches kind vid addr) es))
      (entries_decoded (entries_of p b) (entry-fits b))

  -- With a VID of the plan the entries are those of that VID.
  entries_of_vid : (kind addr b : ℕ) (v : Vid) → In v p.vids
      → selected (matches kind v.vid addr) (entries_of p b)
      ≡ selected (matches kind v.vid addr) (individual_entries (plan_of_vid p v) v b) ++ selected (matches kind v.vid addr) (group_entries (plan_of_vid p v) v b p.members)
  unfolding entries_of
  entries_of_vid kind addr b v k =
      selected-flat_map (matches kind v.vid addr) entries_for p.vids
      ∙ flat_map-only (λ w. selected (matches kind v.vid addr) (entries_for w)) v p.vids (distinct-vids p L) k other
      ∙ selected_append (matches kind v.vid addr) (individual_entries (plan_of_vid p v) v b) (group_entries (plan_of_vid p v) v b p.members)
    where
      entries_for : Vid → List Entry
      entries_for w = individual_entries (plan_of_vid p w) w b ++ group_entries (plan_of_vid p w) w b p.members

      vid_of_lem : (w : Vid) (e : Entry) → In e (individual_entries (plan_of_vid p w) w b) ⊎ In e (group_entries (plan_of_vid p w) w b p.members) → e.vid ≡ w.vid
      vid_of_lem w e (inl k) = let (d, port, i, j, f) = individual-says (plan_of_vid p w) w b e k in ap (λ (z : Entry). z.vid) f
      vid_of_lem w e (inr k) = let (m, port, i, t, j, f) = group-says (plan_of_vid p w) w b e k in ap (λ (z : Entry). z.vid) f

      other : (w : Vid) → In w p.vids → (w ≡ v → ⊥) → selected (matches kind v.vid addr) (entries_for w) ≡ []
      other w i n = selected-none (matches kind v.vid addr) (entries_for w) (λ e j t.
          n (one-vid p L w v i k (sym (vid_of_lem w e (in_append e (individual_entries (plan_of_vid p w) w b) (group_entries (plan_of_vid p w) w b p.members) j))
          ∙ (matches-says kind v.vid addr e t).1)))

  -- "one entry with that bridge's address and the port of the first hop's link": the entries of kind 8 with the VID and the address of
  -- another bridge have the first port of the chosen path to it, and there is none where no path leads there.
  pub individual-ports : (v : Vid) (b d : ℕ) → In v p.vids → d < length p.bridges → (d ≡ b → ⊥)
      → entry_ports 8 v.vid (address (bridge_at p d)) (entry_list_of p b) ≡ ports_to (plan_of_vid p v) v b d
  unfolding individual_entries
  individual-ports v b d k l n =
      entries_read 8 v.vid (address (bridge_at p d)) b
      ∙ ap (map (λ e. e.port)) (entries_of_vid 8 (address (bridge_at p d)) b v k ∙ joined)
      ∙ map_back (individual_entry p v d) (λ e. e.port) (λ port. refl) (ports_to (plan_of_vid p v) v b d)
    where
      test : Entry → Bool
      test = matches 8 v.vid (address (bridge_at p d))

      no_group : selected test (group_entries (plan_of_vid p v) v b p.members) ≡ []
      no_group = selected-none test (group_entries (plan_of_vid p v) v b p.members) (λ e i t. let (m, port, j, s, h, f) = group-says (plan_of_vid p v) v b e i in
          omega (arith, ap (λ (z : Entry). z.kind) f, (matches-says 8 v.vid (address (bridge_at p d)) e t).0))

      below : (c : ℕ) → In c (others p v b) → c < length p.bridges
      below c i = omega (arith, (rising-in 0 (length p.bridges) c (selected-in (λ c. not (eqb c b)) c (rising 0 (length p.bridges)) i).0).1)

      individual : selected test (individual_entries (plan_of_vid p v) v b) ≡ map (individual_entry p v d) (ports_to (plan_of_vid p v) v b d)
      individual = selected-flat_map-only test (λ c. map (individual_entry p v c) (ports_to (plan_of_vid p v) v b c)) d (others p v b)
          (distinct-selected (λ c. not (eqb c b)) (rising 0 (length p.bridges)) (distinct-rising 0 (length p.bridges)))
          (in-selected (λ c. not (eqb c b)) d (rising 0 (length p.bridges)) (in-rising 0 (length p.bridges) d (omega arith) (omega arith))
          (not_T (eqb d b) (λ t. n (eqb→eq d b t))))
          (λ e i. let (port, j, f) = map-in (individual_entry p v d) e (ports_to (plan_of_vid p v) v b d) i in
          says-matches 8 v.vid (address (bridge_at p d)) e (ap (λ (z : Entry). z.kind) f) (ap (λ (z : Entry). z.vid) f)
          (ap (λ (z : Entry). z.address) f))
          (λ c i m e j t. let (port, h, f) = map-in (individual_entry p v c) e (ports_to (plan_of_vid p v) v b c) j in
          m (one_address p L c d (below c i) l
          (sym (ap (λ (z : Entry). z.address) f) ∙ (matches-says 8 v.vid (address (bridge_at p d)) e t).2)))

      joined : selected test (individual_entries (plan_of_vid p v) v b) ++ selected test (group_entries (plan_of_vid p v) v b p.members) ≡ map (individual_entry p v d) (ports_to (plan_of_vid p v) v b d)
      joined = ap (λ (es : List Entry). selected test (individual_entries (plan_of_vid p v) v b) ++ es) no_group
          ∙ append-nil (selected test (individual_entries (plan_of_vid p v) v b)) ∙ individual

  -- The entries of kind 9 with the VID and the group address of a transmitting member have the ports listed for it.
  pub group-ports : (v : Vid) (b : ℕ) (m : Member) → In v p.vids → In m p.members → m.transmits ≡ true → m.vid ≡ v.vid
      → entry_ports 9 v.vid (group_address (bridge_at p m.bridge).sp_source_id m.isid) (entry_list_of p b) ≡ ports_behind (plan_of_vid p v) v b m
  unfolding group_entries
  group-ports v b m k i t e =
      entries_read 9 v.vid addr b
      ∙ ap (map (λ e. e.port)) (entries_of_vid 9 addr b v k
      ∙ ap (λ (es : List Entry). es ++ selected test (group_entries (plan_of_vid p v) v b p.members)) no_individual ∙ group)
      ∙ map_back (group_entry p v m) (λ e. e.port) (λ port. refl) (ports_behind (plan_of_vid p v) v b m)
    where
      addr : ℕ
      addr = group_address (bridge_at p m.bridge).sp_source_id m.isid

      test : Entry → Bool
      test = matches 9 v.vid addr

      no_individual : selected test (individual_entries (plan_of_vid p v) v b) ≡ []
      no_individual = selected-none test (individual_entries (plan_of_vid p v) v b) (λ e i t. let (d, port, j, h, f) = individual-says (plan_of_vid p v) v b e i in
          omega (arith, ap (λ (z : Entry). z.kind) f, (matches-says 9 v.vid addr e t).0))

      source : (c : Member) → In c p.members → (bridge_at p c.bridge).sp_source_id ≤ 1048575
      source c j = (L.bridges.fits (bridge_at p c.bridge) (listed-bridge p L c.bridge (L.members.fits c j).bridge_known)).greatest_source

      -- Another transmitting member of the VID has another group address.
      one-address-one-member : (c : Member) → In c p.members → c.vid ≡ v.vid
          → group_address (bridge_at p c.bridge).sp_source_id c.isid ≡ addr → c ≡ m
      one-address-one-member c j f g =
          let says = group-address-says (bridge_at p c.bridge).sp_source_id (bridge_at p m.bridge).sp_source_id c.isid m.isid
          (source c j) (source m i) (L.members.fits c j).isid (L.members.fits m i).isid g in
          one-member p L c m j i (one-source p L c.bridge m.bridge (L.members.fits c j).bridge_known (L.members.fits m i).bridge_known
          says.0) says.1 (f ∙ sym e)

      transmitters : List Member
      transmitters = selected (transmits p v b) p.members

      group : selected test (group_entries (plan_of_vid p v) v b p.members) ≡ map (group_entry p v m) (ports_behind (plan_of_vid p v) v b m)
      group = selected-flat_map-only test (λ c. map (group_entry p v c) (ports_behind (plan_of_vid p v) v b c)) m transmitters
          (distinct-selected (transmits p v b) p.members (distinct-members p L))
          (in-selected (transmits p v b) m p.members i
          (both m.transmits (eqb m.vid v.vid) (true-test m.transmits t) (eq_eqb m.vid v.vid e)))
          (λ e i. let (port, j, f) = map-in (group_entry p v m) e (ports_behind (plan_of_vid p v) v b m) i in
          says-matches 9 v.vid addr e (ap (λ (z : Entry). z.kind) f) (ap (λ (z : Entry). z.vid) f) (ap (λ (z : Entry). z.address) f))
          (λ c j n e h t. let (port, k, f) = map-in (group_entry p v c) e (ports_behind (plan_of_vid p v) v b c) h in
          let r = selected-in (transmits p v b) c p.members j in
          n (one-address-one-member c r.0 (eqb→eq c.vid v.vid (last_of c.transmits (eqb c.vid v.vid) r.1))
          (sym (ap (λ (z : Entry). z.address) f) ∙ (matches-says 9 v.vid addr e t).2)))
