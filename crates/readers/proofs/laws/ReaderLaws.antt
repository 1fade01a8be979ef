-- Laws of what a record reader finds: a record cut off, a zero bit set, a value out of its range, a record read. Assumes nothing.
use Rattle.std.specs.Prelude.{ℕ, ◌<◌, ◌≤◌, ◌≡◌, refl, List, [], ◌∷◌, Bool, length}
use Rattle.std.proofs.Math.Bool.{true, false}
use borrow.Author.Tests.{lt-ltb, le-ltb, eq-eqb, ne_eqb}
use Rattle.lists.specs.Lists.{any_passes}
use Rattle.rule.specs.Records.{Bridge, HalfLink, Vid, Member, Traffic, Layout, Range, in_limits}
use Rattle.rule.specs.Check.{outside_range}
use Rattle.readers.specs.Readers.{cut, zero_bit, out_of_range, whole, read_of}

module _ (l : Layout) (r : List ℕ) where
  pub read-cut : length r < l.words → read_of l r ≡ cut
  unfolding read_of
  read-cut h = simp (lt-ltb _ _ h)

  module _ (there : l.words ≤ length r) where
    pub read-zero-bit : (l.zero_bits r ≡ 0 → ⊥) → read_of l r ≡ zero_bit
    unfolding read_of
    read-zero-bit h = simp (le-ltb _ _ there, ne_eqb _ _ h)

    module _ (clear : l.zero_bits r ≡ 0) where
      pub read_outside : outside_range l.ranges r ≡ true → read_of l r ≡ out_of_range
      unfolding read_of
      read_outside h = simp (le-ltb _ _ there, eq-eqb _ _ clear, h)

      pub read_whole : outside_range l.ranges r ≡ false → read_of l r ≡ whole (l.decoded r)
      unfolding read_of
      read_whole h = simp (le-ltb _ _ there, eq-eqb _ _ clear, h)

module _ (g : Range) (gs : List Range) (r : List ℕ) where
  pub outside_here : (b : Bool) (v : ℕ) → b ≡ in_limits g.limits v → v ≡ g.value r → b ≡ false → outside_range (g ∷ gs) r ≡ true
  unfolding any_passes
  outside_here b v e f h = let k : in_limits g.limits (g.value r) ≡ false = rw (← f, ← e) h in simp k

  pub inside-here :
      (b : Bool) (v : ℕ) →
      b ≡ in_limits g.limits v →
      v ≡ g.value r →
      b ≡ true →
      outside_range (g ∷ gs) r ≡ outside_range gs r
  unfolding any_passes
  inside-here b v e f h = let k : in_limits g.limits (g.value r) ≡ true = rw (← f, ← e) h in simp k

pub inside-all : (r : List ℕ) → outside_range [] r ≡ false
unfolding any_passes
inside-all r = refl

-- Records are the same where their fields are.
pub same-bridge :
    {o : Bool} {s n : ℕ} {b : Bridge} →
    o ≡ b.overloaded →
    s ≡ b.sp_source_id →
    n ≡ b.identifier →
    record { overloaded = o; sp_source_id = s; identifier = n } ≡ b
same-bridge a b c = λ i. record { overloaded = a i; sp_source_id = b i; identifier = c i }

pub same_half_link :
    {o : Bool} {m n f p l : ℕ} {h : HalfLink} →
    o ≡ h.down →
    m ≡ h.metric →
    n ≡ h.near →
    f ≡ h.far →
    p ≡ h.port →
    l ≡ h.link →
    record { down = o; metric = m; near = n; far = f; port = p; link = l } ≡ h
same_half_link a b c d e f = λ i. record { down = a i; metric = b i; near = c i; far = d i; port = e i; link = f i }

pub same-vid : {n k : ℕ} {v : Vid} → n ≡ v.vid → k ≡ v.index → record { vid = n; index = k } ≡ v
same-vid e f = λ i. record { vid = e i; index = f i }

pub same-member :
    {t r : Bool} {s b v : ℕ} {m : Member} →
    t ≡ m.transmits →
    r ≡ m.receives →
    s ≡ m.isid →
    b ≡ m.bridge →
    v ≡ m.vid →
    record { transmits = t; receives = r; isid = s; bridge = b; vid = v } ≡ m
same-member a b c d e = λ i. record { transmits = a i; receives = b i; isid = c i; bridge = d i; vid = e i }

pub same-traffic :
    {v a f t : ℕ} {r : Traffic} →
    v ≡ r.vid →
    a ≡ r.amount →
    f ≡ r.from →
    t ≡ r.to →
    record { vid = v; amount = a; from = f; to = t } ≡ r
same-traffic a b c d = λ i. record { vid = a i; amount = b i; from = c i; to = d i }
