-- What the parts of a node keep where the promise is raised, and where a ballot is taken out.
use Rattle.am_resetting.proofs.DecidingWords.{◌≡◌, ◌<◌, ◌≤◌, Bool, true, false, ◌==◌, ◌&&◌, Option, Some, None, option_map, refl, sym, ap, subst, ◌∙◌, IfSome, Stamp}
use Rattle.am_resetting.proofs.DecidingWords.{Overtaken, stamp_is_less, stamps_are_equal, split_on_bool_of_log, Node, Ballot, view, is_member, overtake_lower_ballot, node_with_promise, KeptBallot, ballot_of, NodeKeeps}
use Rattle.am_resetting.proofs.DecidingWords.{IsOwnBallot, own_ballot_of_same_promise, ended_ballot_counts_as_own}
use Rattle.am_resetting.proofs.Orders.{stamp_not_lt_itself, stamp_not_lt_transitive, stamp_lt_if_neither, stamp_of_view_not_promised, equal_stamps_are_same}

-- the ballot of a stamp that isn't below stays
stays : (v : Stamp) (o : Option Ballot) → ((b : Ballot) → o ≡ Some b → b.is_over ≡ false → b.stamp ≡ v) → overtake_lower_ballot v o ≡ o
stays v None is = refl
stays v (Some b) is = split_on_bool_of_log b.is_over
    (λ t. rw t refl)
    (λ f. let lt : stamp_is_less b.stamp v ≡ false = ap (λ (s : Stamp). stamp_is_less s v) (is b refl f) ∙ stamp_not_lt_itself v in rw (f, lt) refl)

-- the ballot of a lower stamp is over
some_is : (a b : Ballot) → Some a ≡ Some b → a ≡ b
some_is a b e = cc

over : (v : Stamp) (o : Option Ballot) (b : Ballot) → ((b : Ballot) → o ≡ Some b → b.is_over ≡ false → stamp_is_less b.stamp v ≡ true)
    → ((b : Ballot) → o ≡ Some b → b.resilience ≤ 15) → overtake_lower_ballot v o ≡ Some b → (b.is_over ≡ true) × (b.resilience ≤ 15)
over v None b low few = λ e. absurd (cc)
over v (Some a) b low few = split_on_bool_of_log a.is_over
    (λ t.
    let st : overtake_lower_ballot v (Some a) ≡ Some a = stays v (Some a) (λ x is open_. absurd (let y = ap (λ (z : Ballot). z.is_over) (some_is a x is) in cc)) in
    λ e. let same = some_is a b (sym st ∙ e) in (ap (λ (x : Ballot). x.is_over) (sym same) ∙ t, subst (λ (x : Ballot). x.resilience ≤ 15) same (few a refl)))
    (λ f.
    let lt = low a refl f in
    let ov : overtake_lower_ballot v (Some a) ≡ Some (record a { answer = Overtaken v; is_over = true }) = rw (f, lt) refl in
    λ e. let same = some_is (record a { answer = Overtaken v; is_over = true }) b (sym ov ∙ e) in
    (ap (λ (x : Ballot). x.is_over) (sym same), subst (λ (x : Ballot). x.resilience ≤ 15) same (few a refl)))

pub same_promise_same_node : (m : Node) (v : Stamp) → NodeKeeps m → stamps_are_equal v m.core.promise ≡ true → m ≡ node_with_promise m v
same_promise_same_node m v keeps e =
    let same = equal_stamps_are_same v m.core.promise e in
    let o = stays v m.ballot (λ b there open_. (keeps.ballot b there).stamp open_ ∙ sym same) in
    λ k. record m { core = record (m.core) { promise = sym same k }; ballot = sym o k }

pub node_keeps_by_promise : (m : Node) (v : Stamp) → NodeKeeps m → v.by < 256 → m.core.promise.by < 256 → stamp_is_less v m.core.promise ≡ false
    → stamps_are_equal v m.core.promise ≡ false → NodeKeeps (node_with_promise m v)
node_keeps_by_promise m v keeps small little higher apart =
    let above = stamp_lt_if_neither v m.core.promise small little higher apart in
    record {
      own = keeps.own;
      leads = λ is. absurd (let e = stamp_of_view_not_promised m.core.promise v (view m) above keeps.promised in
          leads_not (is_member m.status) (stamps_are_equal v (view m)) ((view m).by == m.core.who) e is);
      promised = stamp_not_lt_transitive v m.core.promise (view m) higher keeps.promised;
      blank = keeps.blank;
      settled = keeps.settled;
      due = keeps.due;
      unsent = keeps.unsent;
      ballot = λ b there.
          let is = over v m.ballot b
          (λ a is open_. ap (λ (s : Stamp). stamp_is_less s v) ((keeps.ballot a is).stamp open_) ∙ above)
          (λ a is. (keeps.ballot a is).resilience) there in
          ended_ballot_counts_as_own (node_with_promise m v) b is.0 is.1;
    }
  where
    leads_not : (a b c : Bool) → b ≡ false → ((a && b) && c) ≡ true → ⊥
    leads_not true true c e h = cc
    leads_not true false c e h = cc
    leads_not false b c e h = cc

-- a ballot that is taken out stays the node's own
pub taken_out_ballot_is_own : (m n : Node) (o : Option Ballot) → NodeKeeps m → m.ballot ≡ o → n ≡ record m { ballot = None } → IfSome o (λ b. IsOwnBallot n b)
taken_out_ballot_is_own m n None keeps is e = tt
taken_out_ballot_is_own m n (Some b) keeps is e =
    subst (λ (x : Node). IsOwnBallot x b) (sym e) (own_ballot_of_same_promise m (record m { ballot = None }) b refl refl refl (λ logged. logged) (keeps.ballot b is))

-- the parts that a ballot was taken out of: without one they are what they were, and with one they are that once it is back
pub no_ballot_was_taken_out : (m n : Node) {o : Option KeptBallot} → option_map ballot_of o ≡ m.ballot → n ≡ record m { ballot = None } → o ≡ None
    → (m.ballot ≡ None) × (n ≡ m)
no_ballot_was_taken_out m n is rest none =
    let there : m.ballot ≡ None = sym is ∙ ap (option_map ballot_of) none in
    (there, rest ∙ ap (λ (x : Option Ballot). record m { ballot = x }) (sym there))

pub one_ballot_was_taken_out : (m n : Node) {o : Option KeptBallot} {k : KeptBallot} → option_map ballot_of o ≡ m.ballot → n ≡ record m { ballot = None } → o ≡ Some k
    → (m.ballot ≡ Some (ballot_of k)) × (record n { ballot = Some (ballot_of k) } ≡ m)
one_ballot_was_taken_out m n {o} {k} is rest one =
    let there : m.ballot ≡ Some (ballot_of k) = sym is ∙ ap (option_map ballot_of) one in (
      there,
      ap (λ (x : Node). record x { ballot = Some (ballot_of k) }) rest ∙ ap (λ (x : Option Ballot). record m { ballot = x }) (sym there),
    )
