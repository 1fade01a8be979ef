-- The record kinds of a table as one table of data, and the records that they hold (01, "The table"; 02, A5).
-- Assumes nothing.
use Rattle.std.specs.Prelude.{ℕ, ◌+◌, ◌*◌, ◌-◌, ◌%◌, ◌^◌, List, [], ◌∷◌, Bool, ◌&&◌, eqb, leb}
use Rattle.std.proofs.Math.Option.{Option, none, some}
use Rattle.std.proofs.Math.ListN.{get_elem?}
use Rattle.lists.specs.Lists.{selected, rising}
use Rattle.rule.specs.Words.{word, bits}

-- A bridge: whether it is overloaded (02, A1), its SPsourceID, and its Bridge Identifier of 64 bits.
pub record Bridge : Type 0 where
  pub overloaded : Bool
  pub sp_source_id : ℕ
  pub identifier : ℕ

-- "16 bits priority, 48 bits address".
abbrev pub address : Bridge → ℕ
address b = b.identifier % 2 ^ 48

-- A half-link: whether its port is down (02, A3), its metric, and the bridges, the port and the link that it names.
pub record HalfLink : Type 0 where
  pub down : Bool
  pub metric : ℕ
  pub near : ℕ
  pub far : ℕ
  pub port : ℕ
  pub link : ℕ

pub record Vid : Type 0 where
  pub vid : ℕ
  pub index : ℕ

-- A member: T (transmits), R (receives), the I-SID, and the bridge and VID that it names.
pub record Member : Type 0 where
  pub transmits : Bool
  pub receives : Bool
  pub isid : ℕ
  pub bridge : ℕ
  pub vid : ℕ

-- Traffic (02, A5): an amount that goes in a VID from one bridge to another.
pub record Traffic : Type 0 where
  pub vid : ℕ
  pub amount : ℕ
  pub from : ℕ
  pub to : ℕ

pub data Record : Type 0 where
  bridge : Bridge → Record
  half_link : HalfLink → Record
  vid : Vid → Record
  member : Member → Record
  traffic : Traffic → Record
  end : ℕ → Record

-- The count of an end record, or none of another record.
abbrev pub end_count : Record → Option ℕ
end_count (bridge b) = none
end_count (half_link h) = none
end_count (vid v) = none
end_count (member m) = none
end_count (traffic t) = none
end_count (end n) = some n

-- A field of a record's words: the bits `high`..`low` of the word `n`.
abbrev pub field_at : ℕ → ℕ → ℕ → List ℕ → ℕ
field_at n high low r = bits (word r n) high low

-- "Bit 27 of a bridge record's first word now says so" (02, A1).
abbrev pub bridge_of : List ℕ → Bridge
bridge_of r =
    record {
      overloaded = eqb (field_at 0 27 27 r) 1;
      sp_source_id = field_at 0 19 0 r;
      identifier = word r 1 * 2 ^ 32 + word r 2;
    }

-- "Bit 27 of a half-link's first word marks its port as down" (02, A3).
abbrev pub half_link_of : List ℕ → HalfLink
half_link_of r =
    record {
      down = eqb (field_at 0 27 27 r) 1;
      metric = field_at 0 23 0 r;
      near = field_at 1 31 16 r;
      far = field_at 1 15 0 r;
      port = field_at 2 31 16 r;
      link = field_at 2 15 0 r;
    }

abbrev pub vid_of : List ℕ → Vid
vid_of r = record { vid = field_at 0 27 16 r; index = field_at 0 15 0 r }

abbrev pub member_of : List ℕ → Member
member_of r =
    record {
      transmits = eqb (field_at 0 25 25 r) 1;
      receives = eqb (field_at 0 24 24 r) 1;
      isid = field_at 0 23 0 r;
      bridge = field_at 1 31 16 r;
      vid = field_at 1 15 0 r;
    }

-- "VID in bits 27..16 and amount 1 to 65,535 in 15..0; from (16) and to (16)" (02, A5).
abbrev pub traffic_of : List ℕ → Traffic
traffic_of r =
    record {
      vid = field_at 0 27 16 r;
      amount = field_at 0 15 0 r;
      from = field_at 1 31 16 r;
      to = field_at 1 15 0 r;
    }

-- "Ranges": the least and the greatest value of a field.
pub record Limits : Type 0 where
  pub least : ℕ
  pub greatest : ℕ

abbrev pub in_limits : Limits → ℕ → Bool
in_limits l n = leb l.least n && leb n l.greatest

-- Every value within the limits, rising.
abbrev pub all_within : Limits → List ℕ
all_within l = rising l.least (l.greatest + 1 - l.least)

abbrev pub sp_source_id_limits : Limits
sp_source_id_limits = record { least = 1; greatest = 1048575 }

-- "address neither zero nor a group address (bit 40 of the 48 clear)".
abbrev pub address_limits : Limits
address_limits = record { least = 1; greatest = 281474976710655 }

abbrev pub group_bit : ℕ → ℕ
group_bit n = bits n 40 40

abbrev pub group_bit_limits : Limits
group_bit_limits = record { least = 0; greatest = 0 }

-- "three named values: 1, the least; 16,777,214, the greatest usable; 16,777,215, unusable".
abbrev pub least_metric : ℕ
least_metric = 1

abbrev pub greatest_usable_metric : ℕ
greatest_usable_metric = 16777214

abbrev pub unusable_metric : ℕ
unusable_metric = 16777215

abbrev pub metric_limits : Limits
metric_limits = record { least = least_metric; greatest = unusable_metric }

abbrev pub port_limits : Limits
port_limits = record { least = 1; greatest = 4095 }

abbrev pub link_limits : Limits
link_limits = record { least = 1; greatest = 65535 }

abbrev pub vid_limits : Limits
vid_limits = record { least = 1; greatest = 4094 }

abbrev pub index_limits : Limits
index_limits = record { least = 1; greatest = 16 }

-- "a house limit".
abbrev pub isid_limits : Limits
isid_limits = record { least = 256; greatest = 16777214 }

-- "amount 1 to 65,535" (02, A5).
abbrev pub amount_limits : Limits
amount_limits = record { least = 1; greatest = 65535 }

-- A value of a record and its limits.
pub record Range : Type 0 where
  pub value : List ℕ → ℕ
  pub limits : Limits

abbrev range_of : (List ℕ → ℕ) → Limits → Range
range_of f l = record { value = f; limits = l }

-- A row of the table of record kinds: how many words, up to how many records, the bits that are zero (where there are none,
-- the number 0), the ranges, and the record that the words hold.
pub record Layout : Type 0 where
  pub kind : ℕ
  pub words : ℕ
  pub limit : ℕ
  pub zero_bits : List ℕ → ℕ
  pub ranges : List Range
  pub decoded : List ℕ → Record

-- "1 | bridge, 3: bits 27..20 zero, 19..0 SPsourceID; then the 64-bit Bridge Identifier | 64". Of the zero bits 26..20 are left: bit 27
-- is the overload (02, A1).
abbrev pub bridge_layout : Layout
bridge_layout =
    record {
      kind = 1;
      words = 3;
      limit = 64;
      zero_bits = field_at 0 26 20;
      ranges =
          range_of (λ r. (bridge_of r).sp_source_id) sp_source_id_limits
          ∷ range_of (λ r. address (bridge_of r)) address_limits
          ∷ range_of (λ r. group_bit (address (bridge_of r))) group_bit_limits
          ∷ [];
      decoded = λ r. bridge (bridge_of r);
    }

-- "2 | half-link, 3: bits 27..24 zero, 23..0 metric; near bridge (16), far bridge (16); near port (16), link number (16) | 512". Of the
-- zero bits 26..24 are left: bit 27 is the mark of a port that is down (02, A3).
abbrev pub half_link_layout : Layout
half_link_layout =
    record {
      kind = 2;
      words = 3;
      limit = 512;
      zero_bits = field_at 0 26 24;
      ranges =
          range_of (λ r. (half_link_of r).metric) metric_limits
          ∷ range_of (λ r. (half_link_of r).port) port_limits
          ∷ range_of (λ r. (half_link_of r).link) link_limits
          ∷ [];
      decoded = λ r. half_link (half_link_of r);
    }

-- "3 | VID, 1: bits 27..16 VID, 15..0 ECT index | 16".
abbrev pub vid_layout : Layout
vid_layout =
    record {
      kind = 3;
      words = 1;
      limit = 16;
      zero_bits = λ r. 0;
      ranges = range_of (λ r. (vid_of r).vid) vid_limits ∷ range_of (λ r. (vid_of r).index) index_limits ∷ [];
      decoded = λ r. vid (vid_of r);
    }

-- "4 | member, 2: bits 27..26 zero, 25 T (transmits), 24 R (receives), 23..0 I-SID; bridge (16), VID (16) | 64".
abbrev pub member_layout : Layout
member_layout =
    record {
      kind = 4;
      words = 2;
      limit = 64;
      zero_bits = field_at 0 27 26;
      ranges = range_of (λ r. (member_of r).isid) isid_limits ∷ range_of (λ r. (member_of r).vid) vid_limits ∷ [];
      decoded = λ r. member (member_of r);
    }

-- "Kind 5, after the members, is two words", "Up to 256 records are allowed" (02, A5). All bits are in use.
abbrev pub traffic_layout : Layout
traffic_layout =
    record {
      kind = 5;
      words = 2;
      limit = 256;
      zero_bits = λ r. 0;
      ranges = range_of (λ r. (traffic_of r).vid) vid_limits ∷ range_of (λ r. (traffic_of r).amount) amount_limits ∷ [];
      decoded = λ r. traffic (traffic_of r);
    }

-- "15 | end, 1: bits 27..0 the number of words before it | exactly 1".
abbrev pub end_layout : Layout
end_layout =
    record { kind = 15; words = 1; limit = 1; zero_bits = λ r. 0; ranges = []; decoded = λ r. end (field_at 0 27 0 r) }

abbrev pub layouts : List Layout
layouts = bridge_layout ∷ half_link_layout ∷ vid_layout ∷ member_layout ∷ traffic_layout ∷ end_layout ∷ []

-- The row of a kind, or none where the kind is unknown.
unfoldable pub layout_of : ℕ → Option Layout
layout_of k = get_elem? (selected (λ l. eqb k l.kind) layouts) 0
