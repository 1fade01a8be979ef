-- The lists that the entries call writes, given to lookup (01, "Calls"): lookup accepts each of them, and finds for a VID and an
-- address exactly the ports of the entries written with them, in their order. Assumes nothing.
use Rattle.std.specs.Prelude.{ℕ, ◌+◌, ◌*◌, ◌/◌, ◌%◌, ◌^◌, ◌≤◌, ◌<◌, ◌≡◌, refl, ◌⊎◌, Bool, false, not, ◌&&◌, ◌||◌}
use Rattle.std.proofs.Common.{arith, sym, ◌∙◌, inl, inr, eq-eqb, le-leb}
use Rattle.std.proofs.Math.Path.{ap}
use mathlib.Core.List.{List, [], ◌∷◌, map, flat_map}
use Rattle.std.proofs.Math.Dec.{eqb}
use Rattle.std.proofs.Math.ListN.{get_elem?}
use Rattle.lists.specs.Lists.{selected}
use Rattle.lists.specs.Members.{In}
use Rattle.lists.proofs.laws.NumberLaws.{le_or_gt}
use Rattle.rule.specs.Records.{Limits, in_limits, vid_limits, port_limits, group_bit}
use Rattle.rule.specs.Outcome.{answered, refused_if}
use Rattle.rule.specs.Plan.{Plan}
use Rattle.rule.specs.PlanLaws.{PlanLaws}
use Rattle.rule.specs.Entries.{Entry, entry_words, entries_of, entry_list_of}
use Rattle.rule.specs.Lookup.{entry_of, faulty_entry, faulty_list, matching_ports, lookup_outcome}
use Rattle.rule.proofs.laws.EntryLaws.{EntryFits, entry-decoded, entries_decoded, entry-fits}

within-limits : (l : Limits) (n : ℕ) → l.least ≤ n → n ≤ l.greatest → not (in_limits l n) ≡ false
within-limits l n h k = rw (le-leb l.least n h, le-leb n l.greatest k) refl

no_fault_of : (a b c d e : Bool) → a ≡ false → b ≡ false → c ≡ false → d ≡ false → e ≡ false → a || b || c || d || e ≡ false
no_fault_of a b c d e f g h i j = rw (f, g, h, i, j) refl

known-kind : (k g : ℕ) → k ≡ 8 + g → g < 2 → not (eqb k 8 || eqb k 9) ≡ false
known-kind k g e l = go (le_or_gt g 0)
  where
    go : (g ≤ 0) ⊎ (0 < g) → not (eqb k 8 || eqb k 9) ≡ false
    go (inl h) = let f : k ≡ 8 = omega arith in rw f refl
    go (inr h) = let f : k ≡ 9 = omega arith in rw f refl

-- An entry within its ranges has no fault.
entry-faultless : (e : Entry) → EntryFits e → (zero_bits : ℕ) → zero_bits ≡ 0 → faulty_entry e zero_bits ≡ false
entry-faultless e F z h =
    no_fault_of (not (eqb e.kind 8 || eqb e.kind 9)) (not (in_limits vid_limits e.vid)) (not (in_limits port_limits e.port))
    (not (eqb z 0)) (not (eqb (8 + group_bit e.address) e.kind))
    (known-kind e.kind (group_bit e.address) F.kind (omega arith))
    (within-limits vid_limits e.vid F.least_vid F.vid)
    (within-limits port_limits e.port F.least_port F.port)
    (ap not (eq-eqb z 0 h))
    (ap not (eq-eqb (8 + group_bit e.address) e.kind (sym F.kind)))

list_faultless : (es : List Entry) → ((e : Entry) → In e es → EntryFits e) → faulty_list (flat_map entry_words es) ≡ false
unfolding faulty_list flat_map
list_faultless [] f = refl
list_faultless (e ∷ es) f = go (faulty_list (flat_map entry_words es)) (list_faultless es (λ d k. f d (inr k)))
  where
    go : (rest : Bool) → rest ≡ false → faulty_entry (entry_of (e.kind * 2 ^ 28 + e.vid * 2 ^ 16 + e.port) (e.address / 2 ^ 32) (e.address % 2 ^ 32)) (e.address / 2 ^ 32 / 2 ^ 16 % 2 ^ 16) || rest ≡ false
    go rest g =
        ap (λ (b : Bool). b || rest)
        (ap (λ (d : Entry). faulty_entry d (e.address / 2 ^ 32 / 2 ^ 16 % 2 ^ 16)) (entry-decoded e (f e (inl refl)))
        ∙ entry-faultless e (f e (inl refl)) (e.address / 2 ^ 32 / 2 ^ 16 % 2 ^ 16) (omega (arith, (f e (inl refl)).address)))
        ∙ g

module _ (p : Plan) (L : PlanLaws p) (b : ℕ) where
  -- Every list written is one that lookup accepts.
  pub written-accepted : faulty_list (entry_list_of p b) ≡ false
  unfolding entry_list_of
  written-accepted = list_faultless (entries_of p b) (entry-fits p L b)

  -- The ports written with a VID and an address, in list order.
  abbrev pub written_ports : ℕ → ℕ → List ℕ
  written_ports vid address = map (λ e. e.port) (selected (λ e. eqb e.vid vid && eqb e.address address) (entries_of p b))

  -- Lookup over a written list finds exactly these.
  pub written-found : (vid address n : ℕ) → lookup_outcome (entry_list_of p b) vid address n ≡ answered (get_elem? (written_ports vid address) n)
  unfolding lookup_outcome matching_ports entry_list_of
  written-found vid address n =
      ap (λ (t : Bool). refused_if t 14 (answered (get_elem? (matching_ports (flat_map entry_words (entries_of p b)) vid address) n))) (list_faultless (entries_of p b) (entry-fits p L b))
      ∙ ap (λ (es : List Entry). answered (get_elem? (map (λ e. e.port) (selected (λ e. eqb e.vid vid && eqb e.address address) es)) n))
      (entries_decoded (entries_of p b) (entry-fits p L b))
