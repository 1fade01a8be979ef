-- The decoded plan of a table: five lists of records, in table order.
-- Assumes nothing.
use Rattle.std.specs.Prelude.{ℕ, List, [], ◌∷◌, ◌++◌, Bool, false, eqb, ltb, length, get_or}
use Rattle.std.proofs.Math.Option.{Option}
use Rattle.std.proofs.Math.ListN.{get_elem?}
use Rattle.lists.specs.Lists.{selected, any_passes}
use Rattle.rule.specs.Records.{Bridge, HalfLink, Vid, Member, Traffic, Record, bridge, half_link, vid, member, traffic, end}

pub record Plan : Type 0 where
  pub bridges : List Bridge
  pub half_links : List HalfLink
  pub vids : List Vid
  pub members : List Member
  pub traffic : List Traffic

abbrev pub no_records : Plan
no_records = record { bridges = []; half_links = []; vids = []; members = []; traffic = [] }

-- The plan with one record more. An end record adds none.
abbrev pub with_record : Plan → Record → Plan
with_record p (bridge b) =
    record { bridges = p.bridges ++ (b ∷ []); half_links = p.half_links; vids = p.vids; members = p.members; traffic = p.traffic }
with_record p (half_link h) =
    record { bridges = p.bridges; half_links = p.half_links ++ (h ∷ []); vids = p.vids; members = p.members; traffic = p.traffic }
with_record p (vid v) =
    record { bridges = p.bridges; half_links = p.half_links; vids = p.vids ++ (v ∷ []); members = p.members; traffic = p.traffic }
with_record p (member m) =
    record { bridges = p.bridges; half_links = p.half_links; vids = p.vids; members = p.members ++ (m ∷ []); traffic = p.traffic }
with_record p (traffic t) =
    record { bridges = p.bridges; half_links = p.half_links; vids = p.vids; members = p.members; traffic = p.traffic ++ (t ∷ []) }
with_record p (end n) = p

-- How many records of the kind of a record there are.
abbrev pub alike : Plan → Record → ℕ
alike p (bridge b) = length p.bridges
alike p (half_link h) = length p.half_links
alike p (vid v) = length p.vids
alike p (member m) = length p.members
alike p (traffic t) = length p.traffic
alike p (end n) = 0

-- "bridges are numbered from 0 in their order".
abbrev pub known_bridge : Plan → ℕ → Bool
known_bridge p n = ltb n (length p.bridges)

-- What stands for a bridge that is not there.
abbrev pub no_bridge : Bridge
no_bridge = record { overloaded = false; sp_source_id = 0; identifier = 0 }

abbrev pub bridge_at : Plan → ℕ → Bridge
bridge_at p n = get_or p.bridges n no_bridge

-- The VID record number `k`, counted from 0 in record order.
abbrev pub vid_at : Plan → ℕ → Vid
vid_at p k = get_or p.vids k (record { vid = 0; index = 0 })

abbrev pub has_vid : ℕ → Vid → Bool
has_vid n v = eqb v.vid n

-- The record of a VID, or none.
abbrev pub vid_record : Plan → ℕ → Option Vid
vid_record p n = get_elem? (selected (has_vid n) p.vids) 0

abbrev pub known_vid : Plan → ℕ → Bool
known_vid p n = any_passes (has_vid n) p.vids

-- The plan that the paths of a VID are chosen in and its frames move over: the plan itself. Request A14 (document 02) puts the plan of
-- the VID's topology behind this name: the same bridges, VIDs, members and traffic, and of the half-links those of that topology.
abbrev pub plan_of_vid : Plan → Vid → Plan
plan_of_vid p v = p
