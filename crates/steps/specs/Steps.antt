-- One record read, as the code has it: the step that it stands for, and what the code keeps between two records. Assumes nothing.
use Rattle.std.specs.Prelude.{ℕ, ◌+◌, ◌≤◌, ◌≡◌, List, Result, Ok, Err, cond, eqb, length, drop}
use Rattle.std.proofs.Math.Option.{some}
use Rattle.rule.specs.declared.answer.RecordKind.{RecordKind}
use Rattle.rule.specs.declared.refusal.Refusal.{Refusal}
use Rattle.rule.specs.Records.{Layout}
use Rattle.rule.specs.Refusals.{refused_by}
use Rattle.rule.specs.Check.{goes_on, stops, read_as, ReadingStep}
use Rattle.table.specs.declared.shape.Shape.{Shape}
use Rattle.table.specs.Positions.{half_links_from, members_from, traffic_from, words_read, reading_at}
use Rattle.earlier.specs.Keys.{BridgeIndexes, MemberIndex, TrafficIndex}
use Rattle.earlier.specs.HalfLinks.{port_key, number_key, Keyed}

-- "for 2 kind is none".
abbrev pub concerned : ℕ → RecordKind → RecordKind
concerned number kind = cond (eqb number 2) RecordKind.None kind

-- The refusal of a record of the kind that begins at the word `at`.
abbrev pub refusal_of : ℕ → RecordKind → ℕ → Refusal
refusal_of number kind at = record { number = number; kind = concerned number kind; word = at }

-- One record more.
abbrev pub with_bridge : Shape → Shape
with_bridge s =
    record {
      bridges = s.bridges + 1;
      half_links = s.half_links;
      vids = s.vids;
      members = s.members;
      traffic = s.traffic;
    }

abbrev pub with_half_link : Shape → Shape
with_half_link s =
    record {
      bridges = s.bridges;
      half_links = s.half_links + 1;
      vids = s.vids;
      members = s.members;
      traffic = s.traffic;
    }

abbrev pub with_vid : Shape → Shape
with_vid s =
    record {
      bridges = s.bridges;
      half_links = s.half_links;
      vids = s.vids + 1;
      members = s.members;
      traffic = s.traffic;
    }

abbrev pub with_member : Shape → Shape
with_member s =
    record {
      bridges = s.bridges;
      half_links = s.half_links;
      vids = s.vids;
      members = s.members + 1;
      traffic = s.traffic;
    }

abbrev pub with_traffic : Shape → Shape
with_traffic s =
    record {
      bridges = s.bridges;
      half_links = s.half_links;
      vids = s.vids;
      members = s.members;
      traffic = s.traffic + 1;
    }

-- What the answer to a record stands for.
abbrev pub step_values : List ℕ → Result Shape Refusal → ReadingStep
step_values ws (Ok t) = goes_on (reading_at ws t)
step_values ws (Err r) = stops (refused_by r)

-- The rule's step where the record after those of `s` is of the kind of the row `l`.
abbrev pub step_as : List ℕ → Shape → Layout → ReadingStep
step_as ws s l = read_as (reading_at ws s) (drop (words_read s) ws) (some l)

-- A record was read: the step is the rule's, a record taken makes the shape `next`, and its words are all there.
pub record Stepped (ws : List ℕ) (next : Shape) (rule : ReadingStep) (r : Result Shape Refusal) : Type 0 where
  pub value : step_values ws r ≡ rule
  pub is_next : (t : Shape) → r ≡ Ok t → t ≡ next
  pub within : (t : Shape) → r ≡ Ok t → words_read t ≤ length ws

-- The half-links read are in the two indexes.
pub record HalfLinkIndexes (ports links ws : List ℕ) (s : Shape) : Type 0 where
  pub by_port : Keyed port_key ports ws (half_links_from s) s.half_links
  pub by_number : Keyed number_key links ws (half_links_from s) s.half_links

-- After a record taken the records of its kind are in their indexes.
abbrev pub BridgesKept : List ℕ → List ℕ → List ℕ → Result Shape Refusal → Type 0
BridgesKept ws sources addresses r = (t : Shape) → r ≡ Ok t → BridgeIndexes sources addresses ws t.bridges

abbrev pub HalfLinksKept : List ℕ → List ℕ → List ℕ → Result Shape Refusal → Type 0
HalfLinksKept ws ports links r = (t : Shape) → r ≡ Ok t → HalfLinkIndexes ports links ws t

abbrev pub MembersKept : List ℕ → List ℕ → Result Shape Refusal → Type 0
MembersKept ws members r = (t : Shape) → r ≡ Ok t → MemberIndex members ws (members_from t) t.members

abbrev pub TrafficKept : List ℕ → List ℕ → Result Shape Refusal → Type 0
TrafficKept ws traffic r = (t : Shape) → r ≡ Ok t → TrafficIndex traffic ws (traffic_from t) t.traffic
