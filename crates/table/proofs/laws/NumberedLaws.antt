-- What the search for the record of a VID keeps true. Assumes nothing.
use Rattle.std.specs.Prelude.{ℕ, ◌+◌, ◌≤◌, ◌<◌, ◌≡◌, List, drop}
use Rattle.std.proofs.Common.{arith, ap, eq-eqb, ne_eqb}
use Rattle.rule.specs.Records.{Vid, vid_of}
use Rattle.rule.specs.Plan.{has_vid, vid_record}
use Rattle.table.specs.declared.shape.Shape.{Shape}
use Rattle.table.specs.Positions.{vids_from, plan_at}
use Rattle.table.specs.Numbered.{index_of}
use Rattle.table.proofs.laws.PositionLaws.{SeekingRecord, seeking_starts, seeking_on, seeking_finds, seeking_ends}

-- The record of a VID is sought.
abbrev pub SeekingVid : List ℕ → Shape → ℕ → ℕ → Type 0
SeekingVid ws s vid k = SeekingRecord vid_of 1 (vids_from s) ws (has_vid vid) s.vids k

pub vid-starts : (ws : List ℕ) (s : Shape) (vid : ℕ) → SeekingVid ws s vid 0
vid-starts ws s vid = seeking_starts vid_of 1 (vids_from s) ws (has_vid vid) s.vids

module _ (ws : List ℕ) (s : Shape) (vid k : ℕ) (S : SeekingVid ws s vid k) where
  module _ (from : ℕ) (v : Vid) (l : k < s.vids) (e : from ≡ vids_from s) (f : v ≡ vid_of (drop (from + k) ws)) where
    pub vid-on : (v.vid ≡ vid → ⊥) → SeekingVid ws s vid (k + 1)
    vid-on d = seeking_on vid_of 1 (vids_from s) ws (has_vid vid) S (from + k) v l (omega arith) f (ne_eqb v.vid vid d)

    pub vid-found : v.vid ≡ vid → v.index ≡ index_of (vid_record (plan_at ws s) vid)
    vid-found d =
        ap index_of (seeking_finds vid_of 1 (vids_from s) ws (has_vid vid) S (from + k) v l (omega arith) f (eq-eqb v.vid vid d))

  pub vid_missing : s.vids ≤ k → 0 ≡ index_of (vid_record (plan_at ws s) vid)
  vid_missing l = ap index_of (seeking_ends vid_of 1 (vids_from s) ws (has_vid vid) S l)
