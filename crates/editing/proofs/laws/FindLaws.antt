-- What the loop that looks for a half-link by its name keeps true. Assumes nothing.
use Rattle.std.specs.Prelude.{ℕ, ◌≤◌, ◌<◌, ◌≡◌, List, Bool, true, false, ◌&&◌, eqb}
use Rattle.std.proofs.Common.{sym, ap, ◌∙◌, eqb→eq}
use Rattle.lists.specs.Lists.{first_passing, rising}
use Rattle.lists.proofs.laws.FirstPassing.{first_of_map, SeekingFirst, first_found, first_missing}
use Rattle.lists.proofs.laws.NumberLaws.{is_true, is_false, eq_eqb}
use Rattle.rule.specs.Records.{HalfLink, half_link_of}
use Rattle.readers.specs.declared.half_link.HalfLink.{HalfLink as Readers-as-HalfLink}
use Rattle.readers.specs.Readers.{half_link_values}
use Rattle.table.specs.declared.shape.Shape.{Shape}
use Rattle.table.specs.Positions.{record_at, records_at, half_links_from, plan_at}
use Rattle.table.specs.Numbered.{half_link_number}
use Rattle.edits.specs.declared.change.HalfLinkName.{HalfLinkName}
use Rattle.edits.specs.Edits.{is_named}

module _ (ws : List ℕ) (s : Shape) (n : HalfLinkName) where
  -- Whether the half-link `i` has the name.
  abbrev pub named_at : ℕ → Bool
  named_at i = is_named n (half_link_number ws s i)

  by_number : first_passing (is_named n) (plan_at ws s).half_links ≡ first_passing named_at (rising 0 s.half_links)
  unfolding records_at
  by_number = first_of_map (record_at half_link_of 3 (half_links_from s) ws) (is_named n) (rising 0 s.half_links)

  pub found-named : (i : ℕ) → SeekingFirst named_at s.half_links i → i < s.half_links → named_at i ≡ true → i ≡ first_passing (is_named n) (plan_at ws s).half_links
  found-named i S l e = first_found S l e ∙ sym by_number

  pub none_named : (i : ℕ) → SeekingFirst named_at s.half_links i → s.half_links ≤ i → i ≡ first_passing (is_named n) (plan_at ws s).half_links
  none_named i S l = first_missing S l ∙ sym by_number

module _ (h : HalfLink) (name : HalfLinkName) (x : Readers-as-HalfLink) (e : half_link_values x ≡ h) where
  -- What the comparisons of near bridge and port say.
  pub other-near : (x.near ≡ name.near → ⊥) → false ≡ is_named name h
  other-near f = sym (ap (λ (b : Bool). b && eqb h.port name.port) (is_false (eqb h.near name.near) (λ t. f (ap (λ (k : HalfLink). k.near) e ∙ eqb→eq h.near name.near t))))

  pub same-near : x.near ≡ name.near → eqb x.port name.port ≡ is_named name h
  same-near f = λ j. near j && eqb (ap (λ (k : HalfLink). k.port) e j) name.port
    where
      near : true ≡ eqb h.near name.near
      near = sym (is_true (eqb h.near name.near) (eq_eqb h.near name.near (sym (ap (λ (k : HalfLink). k.near) e) ∙ f)))
