-- What a record reader finds in the words from a record's first word on: the record, or its lowest fault among those that its own
-- words show.
-- Assumes nothing.
use Rattle.std.specs.Prelude.{ℕ, List, Result, Ok, Err, cond, eqb, ltb, length}
use Rattle.rule.specs.Records.{Record, Bridge, HalfLink, Vid, Member, Traffic, Layout}
use Rattle.rule.specs.Check.{outside_range}
use Rattle.rule.specs.declared.refusal.Fault.{Fault}
use Rattle.readers.specs.declared.bridge.Bridge.{Bridge as table·Bridge}
use Rattle.readers.specs.declared.half_link.HalfLink.{HalfLink as table·HalfLink}
use Rattle.readers.specs.declared.vid.Vid.{Vid as table·Vid}
use Rattle.readers.specs.declared.member.Member.{Member as table·Member}
use Rattle.readers.specs.declared.traffic.Traffic.{Traffic as table·Traffic}
use Rattle.readers.specs.declared.fault.RecordFault.{RecordFault}

-- 3: "The record's words aren't all there"; 4: "A zero bit is set"; 6: "A value is outside its range"; or the record.
pub data Read : Type 0 where
  cut : Read
  zero_bit : Read
  out_of_range : Read
  whole : Record → Read

unfoldable pub read_of : Layout → List ℕ → Read
read_of l r =
    cond (ltb (length r) l.words) cut
    (cond (eqb (l.zero_bits r) 0) (cond (outside_range l.ranges r) out_of_range (whole (l.decoded r))) zero_bit)

-- What the structs of the records stand for.
abbrev pub bridge_values : table·Bridge → Bridge
bridge_values b = record { overloaded = b.overloaded; sp_source_id = b.sp_source_id; identifier = b.identifier }

abbrev pub half_link_values : table·HalfLink → HalfLink
half_link_values h =
    record { down = h.down; metric = h.metric.0; near = h.near; far = h.far; port = h.port; link = h.link }

abbrev pub vid_values : table·Vid → Vid
vid_values v = record { vid = v.vid; index = v.index }

abbrev pub member_values : table·Member → Member
member_values m =
    record { transmits = m.transmits; receives = m.receives; isid = m.isid; bridge = m.bridge; vid = m.vid }

abbrev pub traffic_values : table·Traffic → Traffic
traffic_values t = record { vid = t.vid; amount = t.amount; from = t.from; to = t.to }

-- A fault that a record's own words show, by its name among all faults.
abbrev pub fault_found : RecordFault → Fault
fault_found RecordFault.Cut = Fault.Cut
fault_found RecordFault.ZeroBit = Fault.ZeroBit
fault_found RecordFault.OutOfRange = Fault.OutOfRange

-- What a reader's answer stands for, by the record that its struct stands for.
abbrev pub read_by : {A : Type 0} → (A → Record) → Result A RecordFault → Read
read_by standing (Ok a) = whole (standing a)
read_by standing (Err RecordFault.Cut) = cut
read_by standing (Err RecordFault.ZeroBit) = zero_bit
read_by standing (Err RecordFault.OutOfRange) = out_of_range
