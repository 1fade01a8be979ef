-- What a sub-TLV or a call names in a checked table: the bridge of an address, and a VID (02, A2). Assumes nothing.
use Rattle.std.specs.Prelude.{ℕ, ◌+◌, ◌≤◌, ◌<◌, ◌≡◌, refl, List, Bool, true, false, not, ◌&&◌, length}
use Rattle.std.proofs.Common.{arith, ap, ◌∙◌, eq-eqb, ne_eqb, lt-ltb, le-ltb}
use Rattle.std.proofs.Math.Path.{sym}
use Rattle.lists.specs.Lists.{rising, any_passes, first_passing}
use Rattle.lists.proofs.laws.NumberLaws.{true-test}
use Rattle.lists.proofs.laws.FirstPassing.{first_of_map, SeekingFirst, first-starts, first_on, first_found, first_missing}
use Rattle.rule.specs.Words.{words_of}
use Rattle.rule.specs.Outcome.{Outcome, refused_as, refused_if, Written, lent_to}
use Rattle.rule.specs.Records.{bridge_of, vid_of, address}
use Rattle.rule.specs.Plan.{Plan, has_vid, known_bridge, known_vid, no_bridge, bridge_at}
use Rattle.rule.specs.Services.{b_mac_of, has_address, advertiser}
use Rattle.rule.proofs.laws.ServiceLaws.{vid-fits}
use Rattle.table.specs.declared.shape.Shape.{Shape}
use Rattle.table.specs.Positions.{record_at, records_at, vids_from, plan_at}
use Rattle.table.specs.Numbered.{bridge_number}
use Rattle.table.proofs.laws.PositionLaws.{record-at}
use Rattle.verdict.specs.Examination.{Checked}
use Rattle.verdict.proofs.laws.CheckedLaws.{bridges-counted}

-- The bridge with an address is sought.
abbrev pub SeekingBridge : List ℕ → Shape → ℕ → ℕ → Type 0
SeekingBridge ws s a d = SeekingFirst (λ i. has_address a (bridge_number ws i)) s.bridges d

pub bridge-starts : (ws : List ℕ) (s : Shape) (a : ℕ) → SeekingBridge ws s a 0
bridge-starts ws s a = first-starts (λ i. has_address a (bridge_number ws i)) s.bridges

module _ (ws : List ℕ) (s : Shape) (a : ℕ) where
  first-bridge : first_passing (λ i. has_address a (bridge_number ws i)) (rising 0 s.bridges) ≡ first_passing (has_address a) (plan_at ws s).bridges
  unfolding records_at
  first-bridge = sym (first_of_map (record_at bridge_of 3 0 ws) (has_address a) (rising 0 s.bridges))

  module _ {d : ℕ} (S : SeekingBridge ws s a d) where
    module _ (l : d < s.bridges) {found : ℕ} (e : found ≡ address (bridge_number ws d)) where
      pub bridge-on : (found ≡ a → ⊥) → SeekingBridge ws s a (d + 1)
      bridge-on n = first_on S l (ne_eqb (address (bridge_number ws d)) a (λ f. n (e ∙ f)))

      pub bridge-found : found ≡ a → d ≡ first_passing (has_address a) (plan_at ws s).bridges
      bridge-found f = first_found S l (eq-eqb (address (bridge_number ws d)) a (sym e ∙ f)) ∙ first-bridge

    pub bridge_missing : s.bridges ≤ d → d ≡ first_passing (has_address a) (plan_at ws s).bridges
    bridge_missing h = first_missing S h ∙ first-bridge

-- A VID is one of the VID records.
pub vid_known : (ws : List ℕ) (s : Shape) (vid : ℕ) {from : ℕ} → from ≡ vids_from s → {b : Bool}
    → b ≡ any_passes (has_vid vid) (records_at vid_of 1 from ws s.vids) → b ≡ known_vid (plan_at ws s) vid
vid_known ws s vid e f = f ∙ ap (λ (k : ℕ). any_passes (has_vid vid) (records_at vid_of 1 k ws s.vids)) e

module _ {t : List ℕ} {s : Shape} (C : Checked t s) (b : ℕ) where
  pub bridge_known : b < s.bridges → known_bridge (plan_at (words_of t) s) b ≡ true
  bridge_known l = lt-ltb b (length (plan_at (words_of t) s).bridges) (omega (arith, bridges-counted C))

  pub bridge-unknown : s.bridges ≤ b → known_bridge (plan_at (words_of t) s) b ≡ false
  bridge-unknown l = le-ltb b (length (plan_at (words_of t) s).bridges) (omega (arith, bridges-counted C))

-- The bridge that a B-MAC was found to be.
pub advertiser-found : (p : Plan) (ws : List ℕ) {b_mac found : ℕ} → b_mac ≡ b_mac_of ws → found ≡ first_passing (has_address b_mac) p.bridges
    → found ≡ advertiser p ws
advertiser-found p ws e f = f ∙ ap (λ (a : ℕ). first_passing (has_address a) p.bridges) e

-- The address of a bridge that the table has, and a VID of it.
pub address_is : (ws : List ℕ) (s : Shape) (b : ℕ) → b < s.bridges → address (bridge_number ws b) ≡ address (bridge_at (plan_at ws s) b)
address_is ws s b l = ap address (sym (record-at bridge_of 3 0 ws s.bridges b no_bridge l))

pub vid-below : {t : List ℕ} {s : Shape} → Checked t s → (vid : ℕ) → known_vid (plan_at (words_of t) s) vid ≡ true → vid < 65536
vid-below {t} {s} C vid e = omega (arith, vid-fits (plan_at (words_of t) s) C.laws 0 vid (true-test (known_vid (plan_at (words_of t) s) vid) e))

-- An answer that is asked for where a bridge and a VID are both known, and refused with a number otherwise.
module _ (list : List ℕ) (number : ℕ) (o : Outcome (Written ℕ)) where
  pub first_lacking : (k v : Bool) → k ≡ false → ◌≡◌ {A = Outcome ℕ × List ℕ} (refused_as number, list) (lent_to list (refused_if (not (k && v)) number o))
  first_lacking k v e = rw e refl

  pub second_lacking : (k v : Bool) → v ≡ false → ◌≡◌ {A = Outcome ℕ × List ℕ} (refused_as number, list) (lent_to list (refused_if (not (k && v)) number o))
  second_lacking true v e = rw e refl
  second_lacking false v e = refl

  pub none_lacking : (k v : Bool) → k ≡ true → v ≡ true → lent_to list o ≡ lent_to list (refused_if (not (k && v)) number o)
  none_lacking k v e f = rw (e, f) refl
