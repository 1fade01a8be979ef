-- The settings of demand 3 exist: every accepted table with a VID is one, and so are the worked example and the diamond of document 01,
-- whose verdicts the checker computes. Assumes nothing.
use Rattle.std.specs.Prelude.{ℕ, ◌<◌, ◌≡◌, refl, false, length}
use Rattle.std.proofs.Common.{ap, ◌∙◌, inl, arith}
use mathlib.Core.List.{List, [], ◌∷◌, map, reverse, flat_map}
use Rattle.lists.specs.Lists.{selected, any_passes}
use Rattle.lists.specs.Members.{In}
use Rattle.rule.specs.Words.{words_of}
use Rattle.rule.specs.Records.{Vid, layout_of}
use Rattle.rule.specs.Outcome.{answered, lent_to}
use Rattle.rule.specs.Plan.{Plan}
use Rattle.rule.specs.Check.{lowest_fault, read_on, verdict}
use Rattle.rule.specs.Links.{turned}
use Rattle.rule.specs.Entries.{entry_list_of}
use Rattle.rule.specs.Answers.{CostAndHops}
use Rattle.rule.specs.Calls.{entries_outcome}
use Rattle.rule.specs.Frames.{stood}
use Rattle.rule.proofs.figures.Tables.{table}
use Rattle.rule.specs.Demand3.{WrittenFor, Setting, Bridges, Given, frame, Demand3}
use Rattle.rule.proofs.laws.Accepted.{accepted-laws}
use Rattle.rule.proofs.laws.CallLaws.{lent-holds, entries_asked}
use Rattle.rule.proofs.laws.Demand3Proved.{demand_3}
use Rattle.rule.proofs.figures.Worked.{worked, worked_plan, worked-accepted}
use Rattle.rule.proofs.figures.Figures.{diamond}

-- "Entries are written in full when that call answered for every bridge": with lists that hold them and no more it does.
written-in-full : (t : List ℕ) (p : Plan) → verdict t ≡ answered p → (u : ℕ) → u < length p.bridges → WrittenFor t u (entry_list_of p u)
unfolding entries_outcome
written-in-full t p accepted u l = record {
  lent = entry_list_of p u;
  rest = [];
  call =
      ap (lent_to (entry_list_of p u)) (entries_asked t p accepted (accepted-laws t p accepted) u l)
      ∙ lent-holds (record { values = length (entry_list_of p u); words = entry_list_of p u });
}

pub setting_of : (t : List ℕ) (p : Plan) → verdict t ≡ answered p → (v : Vid) → In v p.vids → Setting
setting_of t p accepted v k = record {
  table = t;
  plan = p;
  accepted = accepted;
  lists = entry_list_of p;
  full = written-in-full t p accepted;
  vid = v;
  vid_of_table = k;
}

pub worked_setting : Setting
worked_setting = setting_of worked worked_plan worked-accepted (record { vid = 10; index = 1 }) (inl refl)

-- The decoded plan of the diamond.
abbrev pub diamond_plan : Plan
diamond_plan =
    record {
      bridges =
          record { overloaded = false; sp_source_id = 1; identifier = 0x8000020000000001 }
          ∷ record { overloaded = false; sp_source_id = 2; identifier = 0x8000020000000002 }
          ∷ record { overloaded = false; sp_source_id = 3; identifier = 0x8000020000000003 }
          ∷ record { overloaded = false; sp_source_id = 4; identifier = 0x8000020000000004 }
          ∷ [];
      half_links =
          record { down = false; metric = 10; near = 0; far = 1; port = 1; link = 1 }
          ∷ record { down = false; metric = 10; near = 1; far = 0; port = 1; link = 1 }
          ∷ record { down = false; metric = 10; near = 1; far = 3; port = 2; link = 2 }
          ∷ record { down = false; metric = 10; near = 3; far = 1; port = 1; link = 2 }
          ∷ record { down = false; metric = 10; near = 0; far = 2; port = 2; link = 3 }
          ∷ record { down = false; metric = 10; near = 2; far = 0; port = 1; link = 3 }
          ∷ record { down = false; metric = 10; near = 2; far = 3; port = 2; link = 4 }
          ∷ record { down = false; metric = 10; near = 3; far = 2; port = 2; link = 4 }
          ∷ [];
      vids =
          record { vid = 10; index = 1 }
          ∷ record { vid = 11; index = 2 }
          ∷ record { vid = 12; index = 10 }
          ∷ record { vid = 13; index = 9 }
          ∷ [];
      members = [];
      traffic = [];
    }

diamond-accepted : verdict (table diamond) ≡ answered diamond_plan
unfolding words_of layout_of lowest_fault read_on verdict selected any_passes flat_map
diamond-accepted = refl

-- One for each of its VIDs.
pub diamond_setting : (v : Vid) → In v diamond_plan.vids → Setting
diamond_setting v k = setting_of (table diamond) diamond_plan diamond-accepted v k

-- So demand 3 holds of both.
pub worked_meets : Demand3 worked_setting
worked_meets = demand_3 worked_setting

pub diamond_meets : (v : Vid) (k : In v diamond_plan.vids) → Demand3 (diamond_setting v k)
diamond_meets v k = demand_3 (diamond_setting v k)

-- "reaches b along the path given" and "passes the same links in reverse" with as many moves as the path has hops, and none more.
pub in-its-hops :
    (s : Setting) →
    Demand3 s →
    (a b : ℕ) →
    Bridges s a b →
    (path : List ℕ) (values : CostAndHops) →
    Given s a b path values →
    (stood a (frame s a b values.hops) ≡ path)
    × (frame s b a values.hops ≡ reverse (map turned (frame s a b values.hops)))
in-its-hops s d a b k path values g =
    (d.arrival.1 a b k path values g values.hops (omega arith), d.same_links a b k path values g values.hops (omega arith))
