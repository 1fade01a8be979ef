-- What every accepted plan meets, as a record that the laws of links, entries and frames take. Accepted derives it from the verdict.
-- Assumes nothing.
use Rattle.std.specs.Prelude.{ℕ, ◌≤◌, ◌<◌, ◌≡◌, List, length}
use Rattle.lists.specs.Members.{In, EveryTwo}
use Rattle.rule.specs.Records.{Bridge, HalfLink, Vid, Member, Traffic, address, group_bit}
use Rattle.rule.specs.Plan.{Plan}

-- "A record repeats an earlier one's address, SPsourceID, near bridge with port, VID, or bridge with I-SID and VID": of two records
-- the later does not.
pub record BridgesApart (e b : Bridge) : Type 0 where
  pub addresses : address e ≡ address b → ⊥
  pub sources : e.sp_source_id ≡ b.sp_source_id → ⊥

abbrev pub PortsApart : HalfLink → HalfLink → Type 0
PortsApart e h = e.near ≡ h.near → e.port ≡ h.port → ⊥

abbrev pub VidsApart : Vid → Vid → Type 0
VidsApart e v = e.vid ≡ v.vid → ⊥

abbrev pub MembersApart : Member → Member → Type 0
MembersApart e m = e.bridge ≡ m.bridge → e.isid ≡ m.isid → e.vid ≡ m.vid → ⊥

-- "a repeated VID, from and to 8; the opposite direction is no repeat" (02, A5).
abbrev pub TrafficApart : Traffic → Traffic → Type 0
TrafficApart e t = e.vid ≡ t.vid → e.from ≡ t.from → e.to ≡ t.to → ⊥

-- Two half-links of one link number: near and far bridge exchanged.
abbrev pub Mirrors : HalfLink → HalfLink → Type 0
Mirrors e h = e.link ≡ h.link → (h.near ≡ e.far) × (h.far ≡ e.near)

-- A bridge within its ranges: no group address.
pub record BridgeFits (b : Bridge) : Type 0 where
  pub greatest_source : b.sp_source_id ≤ 1048575
  pub individual : group_bit (address b) ≡ 0

-- A half-link within its ranges, between two different bridges of the plan.
pub record HalfLinkFits (bridges : ℕ) (h : HalfLink) : Type 0 where
  pub metric : 1 ≤ h.metric
  pub least_port : 1 ≤ h.port
  pub greatest_port : h.port ≤ 4095
  pub near_known : h.near < bridges
  pub far_known : h.far < bridges
  pub apart : h.near ≡ h.far → ⊥

-- A VID record within its ranges.
pub record VidFits (v : Vid) : Type 0 where
  pub least : 1 ≤ v.vid
  pub greatest : v.vid ≤ 4094
  pub least_index : 1 ≤ v.index
  pub greatest_index : v.index ≤ 16

-- A member within its ranges, of a bridge and a VID of the plan.
pub record MemberFits (bridges : ℕ) (vids : List Vid) (m : Member) : Type 0 where
  pub least_isid : 256 ≤ m.isid
  pub isid : m.isid ≤ 16777214
  pub bridge_known : m.bridge < bridges
  pub vid_known : (v : Vid) × In v vids × (v.vid ≡ m.vid)

-- Traffic within its ranges, from one bridge of the plan to another, in a VID of the plan.
pub record TrafficFits (bridges : ℕ) (vids : List Vid) (t : Traffic) : Type 0 where
  pub least_amount : 1 ≤ t.amount
  pub greatest_amount : t.amount ≤ 65535
  pub from_known : t.from < bridges
  pub to_known : t.to < bridges
  pub apart : t.from ≡ t.to → ⊥
  pub vid_known : (v : Vid) × In v vids × (v.vid ≡ t.vid)

-- The laws of each of the five lists of records.
pub record BridgeLaws (bs : List Bridge) : Type 0 where
  pub few : length bs ≤ 64
  pub apart : EveryTwo BridgesApart bs
  pub fits : (b : Bridge) → In b bs → BridgeFits b

pub record HalfLinkLaws (bridges : ℕ) (hs : List HalfLink) : Type 0 where
  pub apart : EveryTwo PortsApart hs
  pub mirrored : EveryTwo Mirrors hs
  pub fits : (h : HalfLink) → In h hs → HalfLinkFits bridges h

pub record VidLaws (vs : List Vid) : Type 0 where
  pub few : length vs ≤ 16
  pub apart : EveryTwo VidsApart vs
  pub fits : (v : Vid) → In v vs → VidFits v

pub record MemberLaws (bridges : ℕ) (vids : List Vid) (ms : List Member) : Type 0 where
  pub few : length ms ≤ 64
  pub apart : EveryTwo MembersApart ms
  pub fits : (m : Member) → In m ms → MemberFits bridges vids m

pub record TrafficLaws (bridges : ℕ) (vids : List Vid) (ts : List Traffic) : Type 0 where
  pub few : length ts ≤ 256
  pub apart : EveryTwo TrafficApart ts
  pub fits : (t : Traffic) → In t ts → TrafficFits bridges vids t

pub record PlanLaws (p : Plan) : Type 0 where
  pub bridges : BridgeLaws p.bridges
  pub half_links : HalfLinkLaws (length p.bridges) p.half_links
  pub vids : VidLaws p.vids
  pub members : MemberLaws (length p.bridges) p.vids p.members
  pub traffic : TrafficLaws (length p.bridges) p.vids p.traffic
