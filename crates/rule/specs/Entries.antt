-- The filtering entries of a bridge (01, "Entries").
-- Assumes nothing.
use Rattle.std.specs.Prelude.{ℕ, ◌+◌, ◌*◌, ◌/◌, ◌%◌, ◌^◌, Bool, not, cond, ◌&&◌, eqb, length}
use mathlib.Core.List.{List, [], ◌∷◌, ◌++◌, map, flat_map}
use Rattle.std.proofs.Math.Option
use Rattle.std.proofs.Math.Option.{Option, none, some}
use Rattle.lists.specs.Lists.{rising, selected, any_passes}
use Rattle.rule.specs.Records.{HalfLink, Vid, Member, address, all_within, port_limits}
use Rattle.rule.specs.Plan.{Plan, bridge_at, plan_of_vid}
use Rattle.rule.specs.Links.{hop_link}
use Rattle.rule.specs.Paths.{chosen_path}

-- An entry: kind 8 (individual) or 9 (group), VID, port and address.
pub record Entry : Type 0 where
  pub kind : ℕ
  pub vid : ℕ
  pub port : ℕ
  pub address : ℕ

-- "An entry is 3 words: kind 8 (individual) or 9 (group) in bits 31..28, VID in 27..16, port in 15..0; 16 zero bits and the upper
-- 16 bits of address; its lower 32 bits."
abbrev pub entry_words : Entry → List ℕ
entry_words e =
    (e.kind * 2 ^ 28 + e.vid * 2 ^ 16 + e.port) ∷ (e.address / 2 ^ 32) ∷ (e.address % 2 ^ 32) ∷ []

module _ {A : Type 0} where
  abbrev pub list_of : Option A → List A
  list_of none = []
  list_of (some a) = a ∷ []

-- "the port of the first hop's link" of a path, or none where it has no hop.
abbrev pub first_port : List HalfLink → List ℕ → Option ℕ
first_port hs [] = none
first_port hs (u ∷ []) = none
first_port hs (u ∷ v ∷ t) = Option.map (λ l. l.here.port) (hop_link hs u v)

-- The port by which a path leaves the bridge `b`, or none where it does not pass `b`, or ends there.
unfoldable pub leaving_port : List HalfLink → ℕ → List ℕ → Option ℕ
leaving_port hs b [] = none
leaving_port hs b (u ∷ t) = cond (eqb u b) (first_port hs (u ∷ t)) (leaving_port hs b t)

-- What `port` gives of a path, where there is a path and it gives one.
abbrev pub ports_of : (List ℕ → Option ℕ) → Option (List ℕ) → List ℕ
ports_of port none = []
ports_of port (some path) = list_of (port path)

-- The entries of one VID. Their plan is the one that the VID's paths are chosen in.

abbrev pub individual_entry : Plan → Vid → ℕ → ℕ → Entry
individual_entry p v d port = record { kind = 8; vid = v.vid; port = port; address = address (bridge_at p d) }

-- "First, for each other bridge by number that a path reaches, one entry with that bridge's address and the port of the first
-- hop's link."
unfoldable pub individual_entries : Plan → Vid → ℕ → List Entry
individual_entries p v b =
    flat_map
    (λ d. map (individual_entry p v d) (ports_of (first_port p.half_links) (chosen_path p v.index b d)))
    (selected (λ d. not (eqb d b)) (rising 0 (length p.bridges)))

-- "The group address, first octet first: top 4 bits of SPsourceID then hexadecimal 3; the other 16 bits of SPsourceID; the 24 bits
-- of I-SID."
abbrev pub group_address : ℕ → ℕ → ℕ
group_address sp_source_id isid = (sp_source_id / 2 ^ 16 * 16 + 3) * 2 ^ 40 + sp_source_id % 2 ^ 16 * 2 ^ 24 + isid

-- "another bridge with R in the same I-SID and VID".
abbrev pub receives : Member → Member → Bool
receives m r = r.receives && eqb r.isid m.isid && eqb r.vid m.vid && not (eqb r.bridge m.bridge)

-- The ports of the bridge `b` behind which a receiver of the transmitter `m` is: the receiver's "chosen path from the transmitter
-- passes this bridge and leaves it there". One port for each such receiver of the member records `ms`.
unfoldable pub receiver_ports : Plan → Vid → ℕ → List Member → Member → List ℕ
receiver_ports p v b ms m =
    flat_map (λ r. ports_of (leaving_port p.half_links b) (chosen_path p v.index m.bridge r.bridge))
    (selected (receives m) ms)

-- "ports rising: a port is listed as soon as one receiver behind it is found".
unfoldable pub listed_ports : List ℕ → List ℕ
listed_ports behind = selected (λ port. any_passes (λ q. eqb q port) behind) (all_within port_limits)

abbrev pub group_entry : Plan → Vid → Member → ℕ → Entry
group_entry p v m port =
    record {
      kind = 9;
      vid = v.vid;
      port = port;
      address = group_address (bridge_at p m.bridge).sp_source_id m.isid;
    }

-- "Then, for each member record of that VID with T, in table order, a group entry for each port, ports rising". The member records
-- are given apart from the plan that has the paths.
unfoldable pub group_entries : Plan → Vid → ℕ → List Member → List Entry
group_entries p v b ms =
    flat_map (λ m. map (group_entry p v m) (listed_ports (receiver_ports p v b ms m)))
    (selected (λ m. m.transmits && eqb m.vid v.vid) ms)

-- "For a bridge, VID by VID in record order."
unfoldable pub entries_of : Plan → ℕ → List Entry
entries_of p b =
    flat_map (λ v. individual_entries (plan_of_vid p v) v b ++ group_entries (plan_of_vid p v) v b p.members) p.vids

-- The words of a bridge's list.
unfoldable pub entry_list_of : Plan → ℕ → List ℕ
entry_list_of p b = flat_map entry_words (entries_of p b)
