-- What the rows of votes come to, by their tests.
use Rattle.am_resetting.proofs.VotingWords.{◌≡◌, ℕ, Bool, true, false, not, ◌||◌, ◌&&◌, ◌==◌, if◌then◌else◌, Option, Some, sym, ap, subst, ◌∙◌, Vote, Stamp, Outcome}
use Rattle.am_resetting.proofs.VotingWords.{stamp_is_less, Node, Ballot, set_of_one_name, members, is_member, plan_without_letters, plan_with_letter, node_with_promise, vote_packet_of, keep_vote_in_ballot, give_up_in_ballot, begin_ballot}
use Rattle.am_resetting.proofs.VotingWords.{invite_row, vote_row, take_vote, is_open_ballot, reset_row, give_up_row, give_up_in_open_ballot, has, IsEndOf, Reply, Replies, reply_of_equal_plan}
use Rattle.am_resetting.proofs.VotingWords.{branch_of_plan_if_true, branch_of_plan_if_false, reply_quiet_with_outcome, reply_tells_one_note, reply_without_letters, reply_with_telling}
use Rattle.am_base.specs.declared.outcome.Outcome.TheVariants as said
use Rattle.am_node_parts.specs.declared.reply.Telling.TheVariants as tell
use Rattle.am_node_parts.specs.declared.reply.Note.TheVariants as note
use Rattle.am_resetting.proofs.Ballots.{keep_vote_without_own_ballot, give_up_without_own_ballot}

-- whether a stamp is above the promise, by what was read
pub stamp_above_promise_is_answer : (m : Node) (v : Stamp) {promise copy : Stamp} {is_below answer : Bool} → promise ≡ m.core.promise → copy ≡ v → is_below ≡ stamp_is_less promise copy
    → is_below ≡ answer → stamp_is_less m.core.promise v ≡ answer
stamp_above_promise_is_answer m v promise_is copy_is test is = (λ k. stamp_is_less (sym promise_is k) (sym copy_is k)) ∙ sym test ∙ is

-- ---- invitations

-- a Vote back
abbrev pub reply_with_own_vote : Outcome → ℕ → Reply
reply_with_own_vote o s = reply_with_telling o (tell.Note (set_of_one_name s) note.Vote)

pub invite_row_of_newer_promise : (m n : Node) (s : ℕ) (v p : Stamp) → p ≡ m.core.promise → stamp_is_less v p ≡ true → IsEndOf m n
    → Replies (invite_row m s v) (reply_with_own_vote (said.Newer p) s) n
unfolding invite_row
invite_row_of_newer_promise m n s v p e below end =
    let t : stamp_is_less v m.core.promise ≡ true = ap (stamp_is_less v) (sym e) ∙ below in
    rw t (subst (λ (x : Stamp). Replies (plan_with_letter m (said.Newer m.core.promise) (set_of_one_name s) vote_packet_of) (reply_with_own_vote (said.Newer x) s) n) (sym e)
    (reply_tells_one_note m n (said.Newer m.core.promise) (set_of_one_name s) note.Vote tt (λ k. end)))

pub invite_row_is_voted : (m n : Node) (s : ℕ) (v p : Stamp) → p ≡ m.core.promise → stamp_is_less v p ≡ false → IsEndOf (node_with_promise m v) n
    → Replies (invite_row m s v) (reply_with_own_vote said.Voted s) n
unfolding invite_row
invite_row_is_voted m n s v p e below end =
    let t : stamp_is_less v m.core.promise ≡ false = ap (stamp_is_less v) (sym e) ∙ below in
    rw t (reply_tells_one_note (node_with_promise m v) n said.Voted (set_of_one_name s) note.Vote tt (λ k. end))

-- ---- votes

pub vote_row_is_overtaken : (m n : Node) (s : ℕ) (v : Stamp) (vote : Vote) → stamp_is_less m.core.promise v ≡ true → IsEndOf (node_with_promise m v) n
    → Replies (vote_row m s v vote) (reply_without_letters (said.Overtaken v)) n
unfolding vote_row
vote_row_is_overtaken m n s v vote t end = rw t (reply_quiet_with_outcome (node_with_promise m v) n (said.Overtaken v) (λ k. end))

pub vote_row_by_its_ballot : (m n : Node) (s : ℕ) (v : Stamp) (vote : Vote) (y : Reply) (b : Option Ballot) → stamp_is_less m.core.promise v ≡ false → m.ballot ≡ b
    → Replies (take_vote m s v vote b) y n → Replies (vote_row m s v vote) y n
unfolding vote_row
vote_row_by_its_ballot m n s v vote y b f is r = rw f (subst (λ (x : Option Ballot). Replies (take_vote m s v vote x) y n) (sym is) r)

pub take_vote_is_elsewhere : (m n : Node) (s : ℕ) (v : Stamp) (vote : Vote) (b : Ballot) → (stamp_is_less v m.core.promise || not (is_open_ballot v b)) ≡ true → IsEndOf m n
    → Replies (take_vote m s v vote (Some b)) (reply_without_letters said.Elsewhere) n
take_vote_is_elsewhere m n s v vote b t end = rw t (reply_quiet_with_outcome m n said.Elsewhere (λ k. end))

pub take_vote_of_given_up : (m n : Node) (s : ℕ) (v : Stamp) (vote : Vote) (b : Ballot) → (stamp_is_less v m.core.promise || not (is_open_ballot v b)) ≡ false → b.given_up s ≡ true
    → IsEndOf m n → Replies (take_vote m s v vote (Some b)) (reply_without_letters said.Known) n
take_vote_of_given_up m n s v vote b f t end = rw (f, t) (reply_quiet_with_outcome m n said.Known (λ k. end))

pub take_vote_is_kept : (m n : Node) (s : ℕ) (v : Stamp) (vote : Vote) (b : Ballot) (x : Option Ballot) (y : Reply)
    → (stamp_is_less v m.core.promise || not (is_open_ballot v b)) ≡ false → b.given_up s ≡ false → Replies (keep_vote_in_ballot m b s vote) y n
    → Replies (take_vote (record m { ballot = x }) s v vote (Some b)) y n
take_vote_is_kept m n s v vote b x y f g r = rw (f, g) (reply_of_equal_plan _ (keep_vote_in_ballot m b s vote) y n (keep_vote_without_own_ballot m x b s vote) r)

-- ---- names given up

pub give_up_row_by_ballot : (m n : Node) (name : ℕ) (y : Reply) (b : Option Ballot) → m.ballot ≡ b → Replies (give_up_in_open_ballot m name b) y n
    → Replies (give_up_row m name) y n
unfolding give_up_row
give_up_row_by_ballot m n name y b is r = subst (λ (x : Option Ballot). Replies (give_up_in_open_ballot m name x) y n) (sym is) r

pub give_up_of_over_ballot : (m n : Node) (name : ℕ) (b : Ballot) → b.is_over ≡ true → IsEndOf m n → Replies (give_up_in_open_ballot m name (Some b)) (reply_without_letters said.NotCoordinator) n
give_up_of_over_ballot m n name b t end = rw t (reply_quiet_with_outcome m n said.NotCoordinator (λ k. end))

pub give_up_of_own_name : (m n : Node) (name : ℕ) (b : Ballot) → b.is_over ≡ false → (name == m.core.who) ≡ true → IsEndOf m n
    → Replies (give_up_in_open_ballot m name (Some b)) (reply_without_letters said.Unfit) n
give_up_of_own_name m n name b f t end = rw (f, t) (reply_quiet_with_outcome m n said.Unfit (λ k. end))

pub give_up_of_other_name : (m n : Node) (name : ℕ) (b : Ballot) (x : Option Ballot) (y : Reply) → b.is_over ≡ false → (name == m.core.who) ≡ false
    → Replies (give_up_in_ballot m b name) y n → Replies (give_up_in_open_ballot (record m { ballot = x }) name (Some b)) y n
give_up_of_other_name m n name b x y f g r =
    let w : Node = record m { ballot = x } in
    let e : give_up_in_open_ballot w name (Some b) ≡ give_up_in_ballot m b name = branch_of_plan_if_false b.is_over (plan_without_letters w said.NotCoordinator)
    (if name == m.core.who then plan_without_letters w said.Unfit else give_up_in_ballot w b name) f ∙ branch_of_plan_if_false (name == m.core.who) (plan_without_letters w said.Unfit) (give_up_in_ballot w b name) g
    ∙ give_up_without_own_ballot m x b name in
    reply_of_equal_plan (give_up_in_open_ballot w name (Some b)) (give_up_in_ballot m b name) y n e r

-- ---- resets

pub reset_row_of_no_member : (m n : Node) (least resilience : ℕ) → (is_member m.status && has (members m) m.core.who) ≡ false → IsEndOf m n
    → Replies (reset_row m least resilience) (reply_without_letters said.NotMember) n
unfolding reset_row
reset_row_of_no_member m n least resilience f end = rw f (reply_quiet_with_outcome m n said.NotMember (λ k. end))

pub reset_row_of_leaver : (m n : Node) (least resilience : ℕ) → (is_member m.status && has (members m) m.core.who) ≡ true → m.leaving ≡ true → IsEndOf m n
    → Replies (reset_row m least resilience) (reply_without_letters said.Leaving) n
unfolding reset_row
reset_row_of_leaver m n least resilience is l end =
    reply_of_equal_plan (reset_row m least resilience) (plan_without_letters m said.Leaving) (reply_without_letters said.Leaving) n
    (ap (λ (b : Bool). if not b then plan_without_letters m said.NotMember else if m.leaving then plan_without_letters m said.Leaving else begin_ballot m least resilience) is
    ∙ branch_of_plan_if_true m.leaving (plan_without_letters m said.Leaving) (begin_ballot m least resilience) l)
    (reply_quiet_with_outcome m n said.Leaving (λ k. end))

pub reset_row_begins_ballot : (m n : Node) (least resilience : ℕ) (y : Reply) → (is_member m.status && has (members m) m.core.who) ≡ true
    → m.leaving ≡ false → Replies (begin_ballot m least resilience) y n → Replies (reset_row m least resilience) y n
unfolding reset_row
reset_row_begins_ballot m n least resilience y is l r =
    reply_of_equal_plan (reset_row m least resilience) (begin_ballot m least resilience) y n
    (ap (λ (b : Bool). if not b then plan_without_letters m said.NotMember else if m.leaving then plan_without_letters m said.Leaving else begin_ballot m least resilience) is
    ∙ branch_of_plan_if_false m.leaving (plan_without_letters m said.Leaving) (begin_ballot m least resilience) l)
    r
