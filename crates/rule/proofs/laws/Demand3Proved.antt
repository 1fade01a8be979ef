-- Demand 3, proved: each sentence of Demand3 by the laws that it rests on, in the demand's order, and `demand_3`, which holds them all
-- for every setting. Assumes nothing.
use Rattle.std.specs.Prelude.{ℕ, ◌≤◌, ◌<◌, ◌≡◌, refl, ◌⊎◌, length}
use Rattle.std.proofs.Common.{arith, sym, ap, ◌∙◌, subst, inl, inr}
use mathlib.Core.List.{List, [], ◌∷◌, ◌++◌, reverse, append_assoc, reverse-cons, reverse-append}
use Rattle.std.proofs.Math.Option.{Option, none, some}
use Rattle.lists.specs.Members.{In}
use Rattle.graph.specs.Graph.{hops}
use Rattle.graph.specs.Order.{Lower}
use Rattle.graph.proofs.laws.Notions.{Least as LeastCost, RanksAbove}
use Rattle.lists.proofs.laws.MemberLaws.{nil_not_cons, none-not-some, last_of_append, in-here, in_right}
use Rattle.graph.proofs.laws.Paths.{stays-inside}
use Rattle.graph.proofs.laws.ChosenPaths.{chosen-first, chosen-below, chosen_part, chosen-reverse}
use Rattle.rule.specs.Outcome.{Outcome, refused_as, lent_to}
use Rattle.rule.specs.Paths.{chosen_path}
use Rattle.rule.specs.Answers.{CostAndHops}
use Rattle.rule.specs.Calls.{measured, path_found, path_outcome}
use Rattle.rule.specs.Demand3.{Setting, vid_plan, Apart, ports_for, cost_in, masked_path_id, Refusal12, NoEntry, Arrival, Least, SameLinks, Parts, ArrivalPort, Receivers, NoBridgeTwice, CopyArrivalPort, Values, Demand3}
use Rattle.rule.proofs.laws.LinkLaws.{joined-hop}
use Rattle.rule.proofs.laws.CallLaws.{lent-not_12}
use Rattle.rule.proofs.laws.EntryLaws.{says-receives}
use Rattle.rule.proofs.laws.Network.{chosen_is_path, no_path_is_none, vid-laws, graph, key, graph_meets, ChosenFor}
use Rattle.rule.proofs.laws.FrameLaws.{no_path_no_port, port_of_hop_lem, stands-on-path, same-links, frame-arrival}
use Rattle.rule.proofs.laws.ListBound.{few_words}
use Rattle.rule.proofs.laws.GroupLaws.{reached-once, no_copy_stays, reached-at-most-once, sender_not-reached, copy_arrives}
use Rattle.rule.proofs.laws.SettingLaws.{laws, written, net, path-call, chain-path, path-chain, chain-chosen, given-chosen, chosen-given}

module _ (s : Setting) where
  -- "Whatever list is lent, the path call refuses with 12 exactly when no chain of usable links joins a and b".
  pub refused_12 : Refusal12 s
  refused_12 a b B lent = (
    λ e. go (chosen_path (vid_plan s) s.vid.index a b) refl
        (sym (ap (λ (z : Outcome CostAndHops × List ℕ). z.0) call) ∙ e),
    back,
  )
    where
      call : path_outcome s.table s.vid.vid a b lent ≡ lent_to lent (path_found (vid_plan s) (chosen_path (vid_plan s) s.vid.index a b))
      call = path-call s a b B.first B.second lent

      go : (o : Option (List ℕ)) → chosen_path (vid_plan s) s.vid.index a b ≡ o → (lent_to lent (path_found (vid_plan s) o)).0 ≡ refused_as 12
          → Apart s a b
      go none e f = λ q c. let (path, P) = chain-chosen s a b q c in
          none-not-some (sym e ∙ chosen_is_path (vid_plan s) (vid-laws (net s)) s.vid.index a b path P)
      go (some q) e f = absurd (lent-not_12 lent (record { values = measured (vid_plan s) q; words = q }) f)

      back : Apart s a b → (path_outcome s.table s.vid.vid a b lent).0 ≡ refused_as 12
      back f = ap (λ (z : Outcome CostAndHops × List ℕ). z.0) (call
          ∙ ap (λ (o : Option (List ℕ)). lent_to lent (path_found (vid_plan s) o))
          (no_path_is_none (vid_plan s) (vid-laws (net s)) s.vid.index a b (λ q o. f q (path-chain s a b q o))))

  -- "and exactly then a has no entry for b".
  pub no_entry_lem : NoEntry s
  no_entry_lem a b B = (
    λ e q c. let (path, P) = chain-chosen s a b q c in entry e path P (chosen-first (graph (net s)) (key (net s)) a b path P),
    λ f. no_path_no_port (net s) a b B.first B.second (λ e. B.different (sym e)) (λ q o. f q (path-chain s a b q o)),
  )
    where
      entry : ports_for s a b ≡ [] → (path : List ℕ) → ChosenFor (net s) a b path
          → ((t : List ℕ) × (path ≡ a ∷ t) × LeastCost (graph (net s)) a t b) → ⊥
      entry e path P ([], f, W) = B.different W.way
      entry e path P (w ∷ t, f, W) =
          let Q : ChosenFor (net s) a b (a ∷ w ∷ t) = rw f at P in
          let (l, h) = joined-hop (vid_plan s) (vid-laws (net s)) a w Q.path.1.0 in
          nil_not_cons (sym e ∙ port_of_hop_lem (net s) a w b t l Q h)

  -- "Otherwise a frame from a, moved by the entries for b, reaches b along the path given".
  pub arrives : Arrival s
  arrives = (
    λ a b B q c. let (path, P) = chain-chosen s a b q c in (path, measured (vid_plan s) path, chosen-given s a b B.first B.second path P),
    λ a b B path values G n l. let (P, e) = given-chosen s a b B.first B.second path values G in
        stands-on-path (net s) b n a path P (omega (arith, ap (λ (z : CostAndHops). z.hops) e)),
  )

  -- "Every other list of bridges from a to b, each joined to the next, costs more, or ties and has more hops, or ties in both and has
  -- a higher masked PATHID."
  pub least : Least s
  least a b B path values G = let (P, e) = given-chosen s a b B.first B.second path values G in (
    path-chain s a b path P.path,
    λ q c n. places q (chosen-below (graph (net s)) (key (net s)) a b path q P (chain-path s a b q c) n),
  )
    where
      places : (q : List ℕ) → RanksAbove (graph (net s)) (key (net s)) q path
          → (cost_in s path < cost_in s q)
          ⊎ ((cost_in s path ≡ cost_in s q) × ((hops path < hops q) ⊎ ((hops path ≡ hops q) × Lower (masked_path_id s path) (masked_path_id s q))))
      places q (inl h) = inl h
      places q (inr (inl (e, h))) = inr (e, inl h)
      places q (inr (inr (e, f, h))) = inr (e, inr (f, h))

  -- "The frame from b to a passes the same links in reverse."
  pub same-in-reverse : SameLinks s
  same-in-reverse a b B path values G n l = let (P, e) = given-chosen s a b B.first B.second path values G in
      same-links (net s) a b n path P (omega (arith, ap (λ (z : CostAndHops). z.hops) e))

  -- "The path between any two bridges on the way is that part of it."
  pub parts : Parts s
  parts a b B path values G front c between d back e =
      let (P, f) = given-chosen s a b B.first B.second path values G in
      let Q : ChosenFor (net s) a b (front ++ ((c ∷ between ++ (d ∷ [])) ++ back)) = subst (λ (z : List ℕ). ChosenFor (net s) a b z)
      (e ∙ whole) P in
      let h : c < length s.plan.bridges = inside P c (subst (λ (z : List ℕ). In c z) (sym e) (in-here c front (between ++ (d ∷ back)))) in
      let k : d < length s.plan.bridges = inside P d
      (subst (λ (z : List ℕ). In d z) (sym e) (in_right d front (c ∷ between ++ (d ∷ back)) (inr (in-here d between back)))) in
      let there : ChosenFor (net s) c d (c ∷ between ++ (d ∷ [])) = subst (λ (z : ℕ). ChosenFor (net s) c z (c ∷ between ++ (d ∷ [])))
      (last_of_append c between d [])
      (chosen_part (graph (net s)) (key (net s)) a b front c (between ++ (d ∷ [])) back Q) in
      let again : ChosenFor (net s) d c (d ∷ reverse between ++ (c ∷ [])) = subst (λ (z : List ℕ). ChosenFor (net s) d c z) turned
      (chosen-reverse (graph (net s)) (graph_meets (net s)) (key (net s)) c d (c ∷ between ++ (d ∷ [])) there) in (
        (measured (vid_plan s) (c ∷ between ++ (d ∷ [])), chosen-given s c d h k (c ∷ between ++ (d ∷ [])) there),
        (measured (vid_plan s) (d ∷ reverse between ++ (c ∷ [])), chosen-given s d c k h (d ∷ reverse between ++ (c ∷ [])) again),
      )
    where
      whole : front ++ (c ∷ between ++ (d ∷ back)) ≡ front ++ ((c ∷ between ++ (d ∷ [])) ++ back)
      whole = ap (λ (z : List ℕ). front ++ (c ∷ z)) (sym (append_assoc between (d ∷ []) back))

      turned : reverse (c ∷ between ++ (d ∷ [])) ≡ d ∷ reverse between ++ (c ∷ [])
      turned = reverse-cons c (between ++ (d ∷ [])) ∙ ap (λ (z : List ℕ). z ++ (c ∷ [])) (reverse-append between (d ∷ []))

      inside : ChosenFor (net s) a b path → (x : ℕ) → In x path → x < length s.plan.bridges
      inside P x k = stays-inside (graph (net s)) (graph_meets (net s)) a b path B.first P.path x k

  -- "At each bridge that the frame from a enters, the entry for a names the arrival port."
  pub names-arrival-port : ArrivalPort s
  names-arrival-port a b B n l k = frame-arrival (net s) a b n B.first B.second B.different l k

  -- "A group frame from any transmitting member, copied by the group entries, reaches exactly once every other receiving member of
  -- its service to which a path from the sender leads."
  pub receivers-once : Receivers s
  receivers-once m M n l = (
    λ r R q c. let (path, P) = chain-chosen s m.bridge r.bridge q c in
        reached-once (net s) m M.of_table M.transmits M.in_vid r R.of_table
        (says-receives m r R.receives R.in_service.1 R.in_service.0 R.other) R.other path P n l,
    no_copy_stays (net s) m M.of_table M.transmits M.in_vid n l,
  )

  -- "It reaches no bridge twice and never comes back to its sender."
  pub no_bridge_twice_lem : NoBridgeTwice s
  no_bridge_twice_lem m M n = (
    λ u. reached-at-most-once (net s) m M.of_table M.transmits M.in_vid n u,
    sender_not-reached (net s) m M.of_table M.transmits M.in_vid n,
  )

  -- The arrival-port check for the copies of a group frame.
  pub copies-name-arrival-port : CopyArrivalPort s
  copies-name-arrival-port m M n l k = copy_arrives (net s) m M.of_table M.transmits M.in_vid n l k

  -- "The cost and hops given and all words written, in their order, are those that document 01 defines." No list exceeds 14,931 words.
  pub values_defined : Values s
  values_defined = (
    λ a b B path values G. (given-chosen s a b B.first B.second path values G).1,
    λ u l. (written s u l, subst (λ (ws : List ℕ). length ws ≤ 14931) (sym (written s u l)) (few_words s.plan (laws s) u l)),
  )

-- Demand 3, for every accepted table with all its bridges' entries written in full and every VID of it.
pub demand_3 : (s : Setting) → Demand3 s
demand_3 s = record {
  refusal12 = refused_12 s;
  no_entry = no_entry_lem s;
  arrival = arrives s;
  least = least s;
  same_links = same-in-reverse s;
  parts = parts s;
  arrival_port = names-arrival-port s;
  receivers = receivers-once s;
  no_bridge_twice = no_bridge_twice_lem s;
  copy_arrival_port = copies-name-arrival-port s;
  values = values_defined s;
}
