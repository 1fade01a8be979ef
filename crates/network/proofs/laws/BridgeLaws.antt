-- What the loops over the bridges of a network keep true: the one that writes their marks and identifiers, and the one that writes their
-- keys. Assumes nothing.
use Rattle.std.specs.Prelude.{ℕ, ◌+◌, ◌*◌, ◌/◌, ◌%◌, ◌≤◌, ◌<◌, ◌≡◌, refl, List, Bool, true, false, ◌⊎◌, length, get_or, set}
use Rattle.std.specs.Int.{from_bool}
use Rattle.std.proofs.Common.{arith, sym, ap, ◌∙◌, subst, inl, inr, length-set, get_or-set_same, get_or-set_other}
use Rattle.lists.proofs.laws.NumberLaws.{same_or_not}
use Rattle.rule.specs.Records.{Bridge, bridge_of}
use Rattle.rule.specs.Plan.{no_bridge, bridge_at}
use Rattle.rule.specs.Identifiers.{masked_bytes, without_extension}
use Rattle.table.specs.declared.shape.Shape.{Shape}
use Rattle.table.specs.Positions.{plan_at}
use Rattle.table.specs.Numbered.{bridge_number}
use Rattle.table.proofs.laws.PositionLaws.{record-at}
use Rattle.network.specs.Layout.{bridges_in, identifier_in}
use Rattle.network.specs.Networks.{mark_of, BridgeWords, KeysOf}

-- A flag as a number is the mark.
pub mark_of_flag : (overloaded : Bool) → from_bool overloaded ≡ mark_of overloaded
mark_of_flag true = refl
mark_of_flag false = refl

-- The marks and identifiers of the bridges before `u` are written.
pub record Writing (ws : List ℕ) (s : Shape) (before now : List ℕ) (u : ℕ) : Type 0 where
  pub within : u ≤ s.bridges
  pub same_length : length now ≡ length before
  pub written : BridgeWords (plan_at ws s) u now

pub writing-starts : (ws : List ℕ) (s : Shape) (before : List ℕ) → Writing ws s before before 0
writing-starts ws s before = record {
  within = omega arith;
  same_length = refl;
  written = record { marked = λ w l. absurd (omega arith); identified = λ w l. absurd (omega arith) };
}

module _ {ws : List ℕ} {s : Shape} {before now : List ℕ} {u : ℕ} (W : Writing ws s before now u) where
  module _ (b : Bridge) (mark identifier : ℕ) (l : u < s.bridges) (few : s.bridges ≤ 64) (room : 64 + 2 * s.bridges ≤ length before)
      (e : b ≡ bridge_number ws u) (f : mark ≡ mark_of b.overloaded)
      (cleared : identifier ≡ without_extension b.identifier) where
    -- The mark, then the upper and the lower word of the identifier.
    abbrev marked : List ℕ
    marked = set now u mark

    abbrev upper : List ℕ
    upper = set marked (64 + 2 * u) (identifier / 4294967296)

    abbrev both : List ℕ
    both = set upper (64 + 2 * u + 1) (identifier % 4294967296)

    marked-length : length marked ≡ length now
    marked-length = length-set now u mark

    upper-length : length upper ≡ length now
    upper-length = length-set marked (64 + 2 * u) (identifier / 4294967296) ∙ marked-length

    -- A word before the identifier, other than the mark, is as it was.
    elsewhere : (i : ℕ) → (i ≡ u → ⊥) → (i < 64 + 2 * u) → get_or both i 0 ≡ get_or now i 0
    elsewhere i n h =
        get_or-set_other upper (64 + 2 * u + 1) i (identifier % 4294967296) 0 (λ q. omega arith)
        ∙ get_or-set_other marked (64 + 2 * u) i (identifier / 4294967296) 0 (λ q. omega arith)
        ∙ get_or-set_other now u i mark 0 n

    at_mark : get_or both u 0 ≡ mark
    at_mark =
        get_or-set_other upper (64 + 2 * u + 1) u (identifier % 4294967296) 0 (λ q. omega arith)
        ∙ get_or-set_other marked (64 + 2 * u) u (identifier / 4294967296) 0 (λ q. omega arith)
        ∙ get_or-set_same now u mark 0 (omega (arith, W.same_length))

    at-upper : get_or both (64 + 2 * u) 0 ≡ identifier / 4294967296
    at-upper =
        get_or-set_other upper (64 + 2 * u + 1) (64 + 2 * u) (identifier % 4294967296) 0 (λ q. omega arith)
        ∙ get_or-set_same marked (64 + 2 * u) (identifier / 4294967296) 0 (omega (arith, marked-length, W.same_length))

    at-lower : get_or both (64 + 2 * u + 1) 0 ≡ identifier % 4294967296
    at-lower = get_or-set_same upper (64 + 2 * u + 1) (identifier % 4294967296) 0 (omega (arith, upper-length, W.same_length))

    bridge_is : b ≡ bridge_at (plan_at ws s) u
    bridge_is = e ∙ sym (record-at bridge_of 3 0 ws s.bridges u no_bridge l)

    pub writing-on : Writing ws s before both (u + 1)
    writing-on = record {
      within = omega arith;
      same_length = length-set upper (64 + 2 * u + 1) (identifier % 4294967296) ∙ upper-length ∙ W.same_length;
      written = record { marked = λ w m. mark_is w m (same_or_not w u); identified = λ w m. identifier_is w m (same_or_not w u) };
    }
      where
        mark_is : (w : ℕ) → w < u + 1 → (w ≡ u) ⊎ (w ≡ u → ⊥) → get_or both w 0 ≡ mark_of (bridge_at (plan_at ws s) w).overloaded
        mark_is w m (inl g) = rw g (at_mark ∙ f ∙ ap (λ (x : Bridge). mark_of x.overloaded) bridge_is)
        mark_is w m (inr g) = elsewhere w g (omega arith) ∙ W.written.marked w (omega arith)

        identifier_is : (w : ℕ) → w < u + 1 → (w ≡ u) ⊎ (w ≡ u → ⊥)
            → get_or both (64 + 2 * w) 0 * 4294967296 + get_or both (64 + 2 * w + 1) 0 ≡ without_extension (bridge_at (plan_at ws s) w).identifier
        identifier_is w m (inl g) = rw g (omega (arith, at-upper, at-lower, cleared ∙ ap (λ (x : Bridge). without_extension x.identifier) bridge_is))
        identifier_is w m (inr g) = omega (
          arith,
          elsewhere (64 + 2 * w) (λ q. omega arith) (omega arith),
          elsewhere (64 + 2 * w + 1) (λ q. omega arith) (omega arith),
          W.written.identified w (omega arith),
        )

  pub writing-ends : s.bridges ≤ u → BridgeWords (plan_at ws s) s.bridges now
  writing-ends l = let e : u ≡ s.bridges = omega (arith, W.within) in subst (λ (n : ℕ). BridgeWords (plan_at ws s) n now) e W.written

-- The keys of the bridges before `u` are written.
pub record Masking (net : List ℕ) (mask : ℕ) (before now : List ℕ) (u : ℕ) : Type 0 where
  pub within : u ≤ bridges_in net
  pub same_length : length now ≡ length before
  pub held : (w : ℕ) → w < u → get_or now w 0 ≡ masked_bytes 8 mask (identifier_in net w)

pub masking_starts : (net : List ℕ) (mask : ℕ) (before : List ℕ) → Masking net mask before before 0
masking_starts net mask before = record { within = omega arith; same_length = refl; held = λ w l. absurd (omega arith) }

module _ {net : List ℕ} {mask : ℕ} {before now : List ℕ} {u : ℕ} (M : Masking net mask before now u) (room : bridges_in net ≤ length before) where
  pub masking_on : (key : ℕ) → u < bridges_in net → key ≡ masked_bytes 8 mask (identifier_in net u) → Masking net mask before (set now u key) (u + 1)
  masking_on key l e = record {
    within = omega arith;
    same_length = length-set now u key ∙ M.same_length;
    held = λ w m. go w m (same_or_not w u);
  }
    where
      go : (w : ℕ) → w < u + 1 → (w ≡ u) ⊎ (w ≡ u → ⊥) → get_or (set now u key) w 0 ≡ masked_bytes 8 mask (identifier_in net w)
      go w m (inl f) = rw f (get_or-set_same now u key 0 (omega (arith, M.same_length)) ∙ e)
      go w m (inr f) = get_or-set_other now u w key 0 f ∙ M.held w (omega arith)

  pub masking_ends : bridges_in net ≤ u → KeysOf net mask now
  masking_ends l = record { held = λ w m. M.held w (omega arith); has_keys = omega (arith, M.same_length) }
