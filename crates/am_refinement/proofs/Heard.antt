-- What a change needs of the group, from what a letter says and what every run of the group keeps.
use Rattle.am_refinement.proofs.Words.{stamp_eq_gives_equality, ◌≡◌, ◌≢◌, ℕ, suc, ◌+◌, ◌<◌, ◌==◌, ◌&&◌, not, nat_lt, List, length, true, false, Some, slice_get, refl, sym, ap}
use Rattle.am_refinement.proofs.Words.{◌∙◌, subst, arith, nat_tests, Entry, Data, View, GroupView, Stamp, Image, Report, has, stamps_are_equal, row_of_name, fits, members_of_image}
use Rattle.am_refinement.proofs.Words.{OwnSend, item_at, image_of_list, key_of_stamp, Group, IsUp, MayNumber, GroupKeeps, Node, view, is_member, acts_in_its_view, has_own_leave, body_of_spread_send, Packet}
use Rattle.am_refinement.proofs.Words.{member_hears_other, hears_packet_of_its_view, hears_packet_of_sequencer, World, is_stopped, both_of_and, Cause, hears, MayStore, IsNumberedBy, asked_send}
use Rattle.am_refinement.proofs.Words.{own_send, asked_join, asked_leave, known_name_is_member, leave_of_member_fits, NameStands, within, line, IsDecided, EntrySays, OrderSays}
use Rattle.am_refinement.proofs.Words.{LeaverSays, of_view, before_it, ResultSays, BodiesAsked, SendsOnce, NamesNamed, MeetsNeedsOfNumbering, IsOthers, NeedsEntry, ◌-◌, ◌++◌}
use Rattle.am_refinement.proofs.Words.{map, take, Option, None, flat_map-append, length-append, Row, place_of_name, requests_of_sender, request_of_sender_in_entry, IsBeginningOf, IsGoodList, is_member_at_end, row_of_place}
use Rattle.am_refinement.proofs.Words.{member_has_member_row, waiting_send_of, accepted_number_of_send, settle_send_at, settle_send_where_accepted, settle_waiting_send, split_on_bool, standing_request_is_within_count, next_request_after_whole_list, accepted_at_gives_found_send, UnsettledSendsAreInTurn, waiting_send_has_next_request}
use Rattle.am_refinement.proofs.Words.{turn_with_one_more_send, turn_after_settled_send, turn_after_collect, OwnTurn}
use Rattle.am_model.specs.Node as nodes
use Rattle.am_refinement.proofs.{Changes.image_of_whole_within_step, Changes.length_of_whole_list, Changes.running_member_is_up, Entries.StandsForSequencer, Growing.line_of_leading_view, Ongoing.unleft_name_is_ongoing, Changes.image_of_whole_list}
use Rattle.am_refinement.proofs.Membership.Welcoming.{row_of_member}
use Rattle.am_abstract_group.specs.Group as groups
use Rattle.am_node_defs.specs.Sends as own
use Rattle.am_group.proofs.Places.{slice_get_of_append_back}

-- ---- an entry of a decided view's line

pub item_at_next_number : (list : List Entry) (n : ℕ) (e : Entry) (number : ℕ) → number ≡ n + 1 → item_at list number ≡ Some e → slice_get list n ≡ Some e
item_at_next_number list n e number is at = let z : number ≡ suc n = omega arith in ap (item_at list) (sym z) ∙ at

pub heard_entry_gives_its_needs : (w : World) (name number : ℕ) (x : Node) (v : Stamp) (e : Entry) (s : Group) → GroupKeeps s → x.core.who ≡ name
    → NameStands (within w name x) name x (s.node name) → IsUp (s.node name) → x.core.promise ≡ v → v.by ≢ name → IsOthers name x e → IsDecided s v
    → item_at (line s v) number ≡ Some e → number ≡ nodes.top x + 1 → has_own_leave x ≡ false → NeedsEntry s name x e
heard_entry_gives_its_needs w name number x v e s k who old up promise other others decided at next stays =
    let a = s.node name in
    let promised : a.promise ≡ v = old.promise ∙ promise in
    let long = length_of_whole_list (within w name x) name x a old in
    let told_is = image_of_whole_within_step w name name x a old in
    let left : (row_of_name (image_of_list a.list) name).left ≡ 0 =
    (let row : (row_of_name (image_of_list a.list) name).left ≡ (nodes.own_row x).left = ap (λ (i : Image). (row_of_name i name).left) told_is
    ∙ ap (λ n. (row_of_name (nodes.image_of_node x) n).left) (sym who) in
    let none : (nodes.own_row x).left ≡ 0 = grind (arith, nat_tests) in
    row ∙ none) in
    record {
      others = others;
      decided = ap (λ (u : Stamp). s.views.decided (key_of_stamp u)) promised ∙ decided;
      other = λ same. other (ap (λ (u : Stamp). u.by) (sym promised) ∙ same);
      stays = unleft_name_is_ongoing s name k up left;
      next = (λ i. slice_get (s.views.line (key_of_stamp (promised i))) (long i)) ∙ item_at_next_number (line s v) (nodes.top x) e number next at;
    }

-- who hears the sequencer of a view acts in it, and isn't its name
record OfSequencer (name : ℕ) (x : Node) (v : Stamp) : Type 0 where
  member : is_member x.status ≡ true
  promise : x.core.promise ≡ v
  view_ : view x ≡ v
  other : v.by ≢ name

of_sequencer : (name from : ℕ) (x : Node) (v : Stamp) → x.core.who ≡ name → hears_packet_of_sequencer x from v ≡ true → OfSequencer name x v
of_sequencer name from x v who h =
    let a = both_of_and (hears_packet_of_its_view x from v) (v.by == from) h in
    let b = both_of_and (member_hears_other x from) (acts_in_its_view x && stamps_are_equal v (view x)) a.0 in
    let d = both_of_and (not (from == x.core.who)) (is_member x.status) b.0 in
    let c = both_of_and (acts_in_its_view x) (stamps_are_equal v (view x)) b.1 in
    let acting = both_of_and (is_member x.status) (stamps_are_equal x.core.promise (view x)) c.0 in
    let viewed : view x ≡ v = sym (stamp_eq_gives_equality v (view x) c.1) in
    let differs = d.0 in
    record {
      member = d.1;
      promise = stamp_eq_gives_equality x.core.promise (view x) acting.1 ∙ viewed;
      view_ = viewed;
      other = λ same. (let z : (from == x.core.who) ≡ true = grind (arith, nat_tests) in let y = differs in grind arith);
    }

-- what its sequencer numbered
pub bcast_gives_entry_needs : (w : World) (name from above base acc number : ℕ) (x : Node) (v : Stamp) (e : Entry) (s : Group) → GroupKeeps s → x.core.who ≡ name
    → is_stopped w name ≡ false → NameStands (within w name x) name x (s.node name)
    → hears_packet_of_sequencer x from v ≡ true → MayStore x above base number e → EntrySays s from v acc number e → NeedsEntry s name x e
bcast_gives_entry_needs w name from above base acc number x v e s k who runs old heard may says =
    let q = of_sequencer name from x v who heard in
    heard_entry_gives_its_needs w name number x v e s k who old (running_member_is_up w name x (s.node name) runs q.member old) q.promise q.other
    (λ own. absurd (q.other (ap (λ (u : Stamp). u.by) (sym q.view_) ∙ own))) says.sequencer.decided says.stands may.next may.stays

-- by the number of a send whose body is there: what was sent as this request is one body
pub order_gives_entry_needs : (w : World) (name from above base acc number sender req : ℕ) (x : Node) (v : Stamp) (body : List ℕ) (s : Group) → GroupKeeps s
    → x.core.who ≡ name → is_stopped w name ≡ false → NameStands (within w name x) name x (s.node name)
    → hears_packet_of_sequencer x from v ≡ true → body_of_spread_send x sender req ≡ Some body → MayStore x above base number (Data sender req body) → BodiesAsked w x → SendsOnce w
    → OrderSays w s from v acc number sender req → NeedsEntry s name x (Data sender req body)
order_gives_entry_needs w name from above base acc number sender req x v body s k who runs old heard there may asked once says =
    let same : says.body ≡ body = once sender req says.body body says.asked (asked sender req body there) in
    bcast_gives_entry_needs w name from above base acc number x v (Data sender req body) s k who runs old heard may
    (subst (λ b. EntrySays s from v acc number (Data sender req b)) same says.entry)

-- and the View of the ballot that it promised
pub result_gives_view_needs : (w : World) (name from above base number : ℕ) (x : Node) (v : GroupView) (s : Group) → GroupKeeps s
    → x.core.who ≡ name → is_stopped w name ≡ false → NameStands (within w name x) name x (s.node name)
    → member_hears_other x from ≡ true → (v.stamp.by == x.core.who) ≡ false → x.core.promise ≡ v.stamp → MayStore x above base number (View v)
    → ResultSays s from number v → NeedsEntry s name x (View v)
result_gives_view_needs w name from above base number x v s k who runs old heard other promise may says =
    let member = (both_of_and (not (from == x.core.who)) (is_member x.status) heard).1 in
    heard_entry_gives_its_needs w name number x v.stamp (View v) s k who old (running_member_is_up w name x (s.node name) runs member old) promise
    (λ same. (let z : (v.stamp.by == x.core.who) ≡ true = grind (arith, nat_tests) in cc)) (λ own. refl) says.decided says.stands may.next may.stays

-- ---- what a sequencer numbers

fits_data : (image : Image) (name req : ℕ) (body : List ℕ) → has (members_of_image image) name ≡ true → req ≡ (row_of_name image name).last + 1
    → fits image (Data name req body) ≡ true
unfolding fits
fits_data image name req body member next = let t : (req == (row_of_name image name).last + 1) ≡ true = grind (arith, nat_tests) in rw (member, t) refl

-- but for its own waiting send, of which it is to be known that it is the next one
abbrev pub OwnWaitingSendFits : Node → Type 0
OwnWaitingSendFits x = (q : OwnSend) → nodes.waiting_send_of x ≡ Some q → nat_lt (nodes.own_row x).last q.req ≡ true → fits (nodes.image_of_node x) (Data x.core.who q.req q.body)
    ≡ true

number_fits : (c : Cause) (x : Node) (e : Entry) → length (nodes.image_of_node x).rows ≡ 16 → OwnWaitingSendFits x → IsNumberedBy c x e → fits (nodes.image_of_node x) e ≡ true
number_fits c x e long own (asked_send from v report req body by known stays next) = fits_data (nodes.image_of_node x) from req body
    (known_name_is_member x from long known (let z = stays in grind (arith, nat_tests))) next
number_fits c x e long own (own_send q is last) = own q is last
number_fits c x e long own (asked_join from v is other f) = f
number_fits c x e long own (asked_leave from v report is other known stays) = leave_of_member_fits (nodes.image_of_node x) from
    (known_name_is_member x from long known (let z = stays in grind (arith, nat_tests)))

leaves_of : (s : Group) (from : ℕ) (v : Stamp) (report : Report) → LeaverSays s from v report → (s.node from).leaving ≡ true
leaves_of s from v report (of_view leaves h) = leaves
leaves_of s from v report (before_it leaves h) = leaves

number_may : (name : ℕ) (c : Cause) (x : Node) (e : Entry) (s : Group) → x.core.who ≡ name
    → ((from : ℕ) (v : Stamp) (report : Report) → c ≡ hears (Packet.LeaveAsk from v report) → LeaverSays s from v report) → IsNumberedBy c x e
    → MayNumber s.node name e
number_may name c x e s who asks (asked_leave from v report is other known stays) = (
  leaves_of s from v report (asks from v report is),
  λ same. (let z : (from == x.core.who) ≡ true = grind (arith, nat_tests) in cc),
)
number_may name c x e s who asks _ = tt

number_named : (c : Cause) (x : Node) (e : Entry) → ((from : ℕ) (v : Stamp) → c ≡ hears (Packet.JoinAsk from v) → from < 256) → IsNumberedBy c x e → NamesNamed e
number_named c x e small (asked_join from v is other f) = small from v is
number_named c x e small _ = tt

pub numbering_gives_its_needs : (w : World) (name : ℕ) (c : Cause) (x : Node) (e : Entry) (s : Group) → GroupKeeps s → x.core.who ≡ name → is_stopped w name ≡ false
    → NameStands (within w name x) name x (s.node name) → StandsForSequencer name x (s.node name) → length (nodes.image_of_node x).rows ≡ 16
    → OwnWaitingSendFits x → ((from : ℕ) (v : Stamp) (report : Report) → c ≡ hears (Packet.LeaveAsk from v report) → LeaverSays s from v report)
    → ((from : ℕ) (v : Stamp) → c ≡ hears (Packet.JoinAsk from v) → from < 256) → IsNumberedBy c x e → MeetsNeedsOfNumbering s name x e
numbering_gives_its_needs w name c x e s k who runs old leading long own asks small why = record {
  chain = line_of_leading_view s name k (record { up = running_member_is_up w name x (s.node name) runs leading.member old; acts = leading.acts_; by = leading.by });
  fit = number_fits c x e long own why;
  named = number_named c x e small why;
  may = number_may name c x e s who asks why;
}

-- ---- the requests of a name's own sends come in turn, whoever numbers them

-- a longer list has no fewer
pub own_turn_in_longer_list : (who : ℕ) (a b : List Entry) (sends : own.Sends) → IsBeginningOf a b → OwnTurn who a sends → OwnTurn who b sends
own_turn_in_longer_list who a b sends h k =
    let all : requests_of_sender who b ≡ requests_of_sender who a ++ requests_of_sender who h.rest = ap (requests_of_sender who) (sym h.same) ∙ flat_map-append (request_of_sender_in_entry who) a h.rest in
    let long = ap length all ∙ length-append (requests_of_sender who a) (requests_of_sender who h.rest) in
    let low = k.low in
    record { next = k.next; turn = k.turn; low = omega arith }

pub own_turn_after_submit : (who : ℕ) (list : List Entry) (body : List ℕ) (sends : own.Sends) → OwnTurn who list sends → OwnTurn who list (own.queue_send body sends)
own_turn_after_submit who list body sends k = record { next = k.next; turn = turn_with_one_more_send k.next k.next sends.last sends.queue body k.turn; low = k.low }

pub own_turn_after_collect : (who req : ℕ) (list : List Entry) (sends : own.Sends) → OwnTurn who list sends → OwnTurn who list (own.collect req sends)
own_turn_after_collect who req list sends k = search (
  k.next,
  subst (UnsettledSendsAreInTurn k.next k.next (own.collect req sends).queue) (sym same) (turn_after_collect k.next k.next sends.last req sends (omega arith) k.turn),
)
  where
    same : (own.collect req sends).last ≡ sends.last
    same = split_on_bool (own.has_settled_send req sends) (λ t. rw t refl) (λ f. rw f refl)

-- its waiting send is settled where it stands
settled_turn_at : (v : World) (i : ℕ) (x : Node) (a : groups.ChainNode) (s : OwnSend) (at : Option ℕ) → NameStands v i x a → IsGoodList a.list → waiting_send_of x ≡ Some s
    → accepted_number_of_send x s.req ≡ at → OwnTurn x.core.who a.list x.sends → OwnTurn x.core.who a.list (settle_send_at x s.req at).sends
settled_turn_at v i x a s None h good w is k = k
settled_turn_at v i x a s (Some number) h good w is k =
    let same = waiting_send_has_next_request k.next k.next x.sends.last x.sends.queue s k.turn w in
    let found = accepted_at_gives_found_send x s.req number is in
    let start_ = x.core.log.start in
    let front = take start_ v.group in
    let index = (x.core.base - start_) + number in
    let there : slice_get a.list (length front + index) ≡ Some (Data x.core.who s.req found.body) =
    ap (λ l. slice_get l (length front + index)) h.list ∙ slice_get_of_append_back front x.core.log.entries index ∙ found.there in
    let within_ = standing_request_is_within_count a.list x.core.who s.req found.body (length front + index) good.fit there in
    let turn = turn_after_settled_send k.next k.next x.sends.last (x.core.base + 1 + number) x.sends.queue s (omega arith) w k.turn in
    record {
      next = k.next + 1;
      turn = subst (λ r. UnsettledSendsAreInTurn (k.next + 1) (k.next + 1) (map (own.settle_send r (x.core.base + 1 + number)) x.sends.queue) x.sends.last) (sym same) turn;
      low = omega arith;
    }

settled_turn : (v : World) (i : ℕ) (x : Node) (a : groups.ChainNode) (w : Option OwnSend) → NameStands v i x a → IsGoodList a.list → waiting_send_of x ≡ w
    → OwnTurn x.core.who a.list x.sends → OwnTurn x.core.who a.list (settle_send_where_accepted x w).sends
settled_turn v i x a None h good w k = k
settled_turn v i x a (Some s) h good w k = settled_turn_at v i x a s (accepted_number_of_send x s.req) h good w refl k

pub own_turn_after_settle : (v : World) (i : ℕ) (x : Node) (a : groups.ChainNode) → NameStands v i x a → IsGoodList a.list → OwnTurn x.core.who a.list x.sends
    → OwnTurn x.core.who a.list (settle_waiting_send x).sends
unfolding settle_waiting_send
own_turn_after_settle v i x a h good k = settled_turn v i x a (waiting_send_of x) h good refl k

-- so a sequencer that is a member may number its own waiting send
pub own_waiting_send_fits : (v : World) (i : ℕ) (x : Node) (a : groups.ChainNode) → NameStands v i x a → IsGoodList a.list → is_member_at_end a.list x.core.who ≡ true
    → OwnTurn x.core.who a.list x.sends → OwnWaitingSendFits x
unfolding is_member_at_end
own_waiting_send_fits v i x a h good member k q is last =
    let told_is = image_of_whole_list v i x a h in
    let who = x.core.who in
    let same = waiting_send_has_next_request k.next k.next x.sends.last x.sends.queue q k.turn is in
    let next = next_request_after_whole_list a.list who good.fit in
    let in_ = member_has_member_row a.list who member in
    let here : (nodes.own_row x).last ≡ (row_of_place (image_of_list a.list) (place_of_name who)).last =
    ap (λ (r : Row). r.last) (ap (λ (g : Image). row_of_name g who) (sym told_is) ∙ row_of_member a.list who member) in
    let above : (nodes.own_row x).last < q.req = grind (arith, nat_tests) in
    let listed : has (members_of_image (nodes.image_of_node x)) who ≡ true = ap (λ (g : Image). has (members_of_image g) who) (sym told_is) ∙ member in
    fits_data (nodes.image_of_node x) who q.req q.body listed (omega arith)
