-- Records read so far, by an index of a key of theirs. Assumes nothing.
use Rattle.std.specs.Prelude.{ℕ, ◌+◌, ◌*◌, ◌%◌, ◌<◌, ◌≡◌, List}
use Rattle.rule.specs.Records.{Bridge, bridge_of, Vid, vid_of, Member, member_of, Traffic, traffic_of}
use Rattle.key_index.specs.Index.{key_at, Indexed}
use Rattle.table.specs.Positions.{record_at}

module _ {A : Type 0} where
  -- The list `s` is an index of the key of the first `n` records of a kind with `width` words a record, the first of them at the word
  -- `from`.
  pub record KeyedBy (decoded : List ℕ → A) (width : ℕ) (key : A → ℕ) (s ws : List ℕ) (from n : ℕ) : Type 0 where
    pub indexed : Indexed s n
    pub keys : (i : ℕ) → i < n → key_at s i ≡ key (record_at decoded width from ws i)

abbrev pub source_key : Bridge → ℕ
source_key b = b.sp_source_id

-- The lower 32 bits of the address: a key has no more. Bridges with one address have one key; with one key they may differ.
abbrev pub address_key : Bridge → ℕ
address_key b = b.identifier % 4294967296

-- I-SID and bridge: as the address, less than is compared.
abbrev pub member_key : Member → ℕ
member_key m = m.isid * 64 + m.bridge

abbrev pub vid_key : Vid → ℕ
vid_key v = v.vid

-- VID, from and to, less than is compared: with bridge numbers below 64 no two keys are equal, above that they may be. By these factors
-- the chain of a key goes up by 9 for a VID, by 73 for from and by 1 for to, so that traffic of many VIDs, from many bridges or to many
-- falls to different chains.
abbrev pub traffic_key : Traffic → ℕ
traffic_key t = t.vid * 65537 + t.from * 73 + t.to

-- The first `n` bridges are in the two indexes.
pub record BridgeIndexes (sources addresses ws : List ℕ) (n : ℕ) : Type 0 where
  pub by_source : KeyedBy bridge_of 3 source_key sources ws 0 n
  pub by_address : KeyedBy bridge_of 3 address_key addresses ws 0 n

-- The first `n` members from the word `from` on are in the index.
abbrev pub MemberIndex : List ℕ → List ℕ → ℕ → ℕ → Type 0
MemberIndex members ws from n = KeyedBy member_of 2 member_key members ws from n

-- The first `n` VIDs, and the first `n` traffic records, from the word `from` on are in the index.
abbrev pub VidIndex : List ℕ → List ℕ → ℕ → ℕ → Type 0
VidIndex vids ws from n = KeyedBy vid_of 1 vid_key vids ws from n

abbrev pub TrafficIndex : List ℕ → List ℕ → ℕ → ℕ → Type 0
TrafficIndex traffic ws from n = KeyedBy traffic_of 2 traffic_key traffic ws from n
