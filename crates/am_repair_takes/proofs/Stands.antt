-- In every run what is settled of a node's own sends stands in its list: the next request is at most one above the last of its own row.
use Rattle.am_step_laws.proofs.Words.{◌≡◌, inl, inr, ℕ, ◌+◌, ◌-◌, ◌<◌, ◌≤◌, ◌==◌, ◌&&◌, not, nat_lt, Bool, true, false, List, [], ◌∷◌, drop, take}
use Rattle.am_step_laws.proofs.Words.{Some, None, slice_get, refl, sym, ap, ◌∙◌, subst, arith, split_on_bool, nat_tests, All, All-nil, All-cons, All-append, All-weaker, if◌then◌else◌}
use Rattle.am_step_laws.proofs.Words.{Entry, Data, Join, Leave, View, Row, Image, Outcome, Rules, MayFound, place_of_name, life_of_name, has, blank, blank_row, row_at_place, is_blank_image}
use Rattle.am_step_laws.proofs.Words.{row_of_name, members_of_image, after, fits, image_after_entries, Log, image_of_log, OwnSend, Node, Ballot, Event, image_of_node, members, push_entry, top}
use Rattle.am_step_laws.proofs.Words.{BallotVerdict, refresh, settle_waiting_send, refresh_at_end, StepResult, World, start, founder, stranger_node, world_with_step, run, Cause, LooksAtBallot, decides}
use Rattle.am_step_laws.proofs.Words.{IsNumberedBy, asked_send, own_send, asked_join, asked_leave, Change, refreshes, settles, numbers, stores, begins_list}
use Rattle.am_step_laws.proofs.Words.{looks, fetches, stores_view, queues, collects, closes, Changes, unchanged, changed, Effect, acting_name, IsCause, refresh_changes_only_fronts}
use Rattle.am_step_laws.proofs.Words.{has_member_is_in_row, mod_sixteen_lt, image_of_pushed_entry, get_or-replicate, item_of_index_has_property, get_or, GroupView, member_life_of_row, row_after_view}
use Rattle.am_base.proofs.Rows.{row_after_pushed_view, blank_image_has_nobody_joined}
use Rattle.am_node_defs.proofs.Lives.{UnusedPlacesHaveNoLife}
use Rattle.am_node_defs.specs.Sends as own
use Rattle.am_node_defs.specs.Sends.{unsettled_sends_are_in_line}
use Rattle.am_node_defs.proofs.Lines.{next_in_line_is_waiting, sends_in_line_after_settle, next_in_line_after_push, sends_in_line_after_remove, settled_request_below_next}
use Rattle.am_model_laws.specs.Laws.{RowStep}
use Rattle.am_model_laws.proofs.Rows.{rows_of_places_go_on, data_row_goes_on}
use Rattle.am_model.specs.Node.{own_row}
use Rattle.am_model.specs.Refresh.{is_data_of}
use Rattle.am_step_laws.proofs.Rests.{settle_keeps_property}
use Rattle.am_step_laws.proofs.Trimming.Trims.{told_image_is_used}
use Rattle.am_step_laws.proofs.Trimming.TakenRuns.{TrimsOnlyTakenAlongStep, changes_trim_only_taken, WorldTrimsOnlyTaken, events_trim_only_taken, each_node_trims_only_taken, heard_welcome_image_is_used, start_trims_only_taken}
use Rattle.am_step_laws.proofs.Trimming.LeaderRows.{present_row_makes_member}
use Rattle.am_step_laws.proofs.Views.{heard_stamps_have_names}
use Rattle.am_step_laws.proofs.ViewNames.{HeardStampsHaveNames}
use Rattle.am_step_laws.proofs.Trimming.Taken.{HeardWelcomeImageIsUsed}
use Rattle.std.proofs.Common.{cond}
use Rattle.am_step_laws.proofs.Words.{◌||◌, steps}
use Rattle.std.specs.List.{position, position_or_len}
use Rattle.std.proofs.lemmas.List.Folds.{find_at}
use Rattle.std.proofs.lemmas.Option.{slice_get-get_or}
use Rattle.am_model.specs.Node.{founders_entry}
use Rattle.am_step_laws.proofs.Named.{actor_is_below_256}
use Rattle.am_step_laws.proofs.Numbers.RunCounts.{founder_or_stranger_has}
use Rattle.am_repair_takes.specs.Resting.{SettledStands}
use Rattle.am_step_laws.proofs.Words.{slice_index, length, find, both_of_and, All-take, world_with_record, world_after_events}
use Rattle.am_step_laws.proofs.Words.{All-drop, is_member, EventHappens, happens}
use Rattle.am_step_laws.proofs.Words.{events_have_effects}
use Rattle.am_step_laws.proofs.Words.{is_asking_status}
use Rattle.am_step_laws.proofs.Words.{asking_status_has_no_log}
use Rattle.am_node_defs.proofs.Lines.{sends_in_line_after_push}

-- ---- a row's last request

-- the last request of a row for one life
abbrev last_of : Row → ℕ → ℕ
last_of r life = (if r.life == life then r else blank_row).last

abbrev left_of : Row → ℕ → ℕ
left_of r life = (if r.life == life then r else blank_row).left

rises_if : (b : Bool) (r s : Row) → r.last ≤ s.last → (if b then r else blank_row).last ≤ (if b then s else blank_row).last
rises_if true r s h = h
rises_if false r s h = omega arith

step_rises : (n life : ℕ) (r s : Row) → RowStep n r s → nat_lt 0 (left_of r life) ≡ false → last_of r life ≤ last_of s life
step_rises n life r s (inl (inl e)) h = subst (λ x. last_of r life ≤ last_of x life) (sym e) (omega arith)
step_rises n life r s (inl (inr e)) h = subst (λ x. last_of r life ≤ last_of x life) (sym e)
    (rises_if (r.life == life) r (record r { last = r.last + 1 }) (omega arith))
step_rises n life r s (inr (inl e)) h = subst (λ x. last_of r life ≤ last_of x life) (sym e.1)
    (rises_if (r.life == life) r (record r { left = n }) (omega arith))
step_rises n life r s (inr (inr e)) h = split_on_bool (r.life == life)
    (λ t. absurd (let l : nat_lt 0 r.left ≡ false = rw (t, left_of) at h in let up = e.2 in let z : ⊥ = grind (arith, nat_tests) in z))
    (λ f. let none : last_of r life ≡ 0 = ap (λ b. (if b then r else blank_row).last) f in omega arith)

-- who never joined has none
unused_last : (image : Image) (name : ℕ) → UnusedPlacesHaveNoLife image → (row_at_place image name).joined ≡ 0 → (row_of_name image name).last ≡ 0
unused_last image name used none =
    let life : (row_at_place image name).life ≡ 0 = used.unused (place_of_name name) (mod_sixteen_lt name) none in
    let f : ((row_at_place image name).life == life_of_name name) ≡ false = grind (arith, nat_tests) in
    rw f refl

-- a name's last request doesn't fall by an entry that fits, unless it has left
pub last_rises : (image : Image) (n : ℕ) (e : Entry) (name : ℕ) → UnusedPlacesHaveNoLife image → fits image e ≡ true → nat_lt 0 (row_of_name image name).left ≡ false
    → (row_of_name image name).last ≤ (row_of_name (after image n e) name).last
last_rises image n e name used fit stays = split_on_bool ((row_at_place image name).joined == 0)
    (λ t. let none = unused_last image name used (grind (arith, nat_tests)) in omega arith)
    (λ f. step_rises n (life_of_name name) (row_at_place image name) (row_at_place (after image n e) name)
    (rows_of_places_go_on image n e name fit (grind (arith, nat_tests))) stays)

-- nor by a View
viewed_last : (n given life : ℕ) (r : Row) → last_of r life ≤ last_of (row_after_view false n given r) life
viewed_last n given life r = split_on_bool (nat_lt 0 (member_life_of_row r) && not (member_life_of_row r == given))
    (λ t. rw t (rises_if (r.life == life) r (record r { left = n }) (omega arith)))
    (λ f. rw f (omega arith))

view_rises : (image : Image) (n : ℕ) (v : GroupView) (name : ℕ) → UnusedPlacesHaveNoLife image → (row_of_name image name).last ≤ (row_of_name (after image n (View v)) name).last
view_rises image n v name used = split_on_bool ((row_at_place image name).joined == 0)
    (λ t. let none = unused_last image name used (grind (arith, nat_tests)) in omega arith)
    (λ f. split_on_bool (is_blank_image image)
    (λ b. absurd (let none = blank_image_has_nobody_joined image (place_of_name name) b in let z : ⊥ = grind (arith, nat_tests) in z))
    (λ b. let is = row_after_pushed_view image n v (place_of_name name) (mod_sixteen_lt name) in
    subst (λ (x : Row). last_of (row_at_place image name) (life_of_name name) ≤ last_of x (life_of_name name)) (sym (is ∙ rw b refl))
    (viewed_last n (slice_index v.members (place_of_name name)) (life_of_name name) (row_at_place image name))))

-- ---- a node

-- an own send that stands has at most this request
abbrev OwnLow : ℕ → ℕ → Entry → Type 0
OwnLow who last (Data from req body) = from ≡ who → req ≤ last
OwnLow who last _ = Unit {0}

own_more : (who least last : ℕ) (e : Entry) → least ≤ last → OwnLow who least e → OwnLow who last e
own_more who least last (Data from req body) up h = λ same. (let low = h same in omega arith)
own_more who least last _ up h = tt

pub record IsNumbered (m : Node) : Type 0 where
  pub line : unsettled_sends_are_in_line m.sends.last m.sends.queue ≡ true
  pub next : own.next_request m.sends ≤ (own_row m).last + 1
  pub low : All (OwnLow m.core.who (own_row m).last) m.core.log.entries

-- what an entry that fits says of who sent it
fits_low : (image : Image) (n : ℕ) (e : Entry) (who : ℕ) → fits image e ≡ true → OwnLow who (row_of_name (after image n e) who).last e
fits_low image n (Data from req body) who fit = λ same. (let is = (data_row_goes_on image n from req body fit).1 in
    let here = ap (λ k. (row_of_name (after image n (Data from req body)) k).last) same in omega arith)
fits_low image n (Join name) who fit = tt
fits_low image n (Leave name) who fit = tt
fits_low image n (View v) who fit = tt

numbered_pushed : (m : Node) (e : Entry) → (own_row m).last ≤ (row_of_name (after (image_of_node m) (top m + 1) e) m.core.who).last
    → OwnLow m.core.who (row_of_name (after (image_of_node m) (top m + 1) e) m.core.who).last e → IsNumbered m → IsNumbered (push_entry m e)
numbered_pushed m e up low h =
    let is : (own_row (push_entry m e)).last ≡ (row_of_name (after (image_of_node m) (top m + 1) e) m.core.who).last =
    ap (λ (i : Image). (row_of_name i m.core.who).last) (image_of_pushed_entry m e) in
    let next = h.next in
    let last = (own_row (push_entry m e)).last in
    record {
      line = h.line;
      next = omega arith;
      low = All-append (OwnLow m.core.who last) m.core.log.entries (e ∷ [])
          (All-weaker (OwnLow m.core.who (own_row m).last) (OwnLow m.core.who last) (λ x. own_more m.core.who (own_row m).last last x (omega arith))
          m.core.log.entries h.low)
          (All-cons (OwnLow m.core.who last) e [] (subst (λ k. OwnLow m.core.who k e) (sym is) low) (All-nil (OwnLow m.core.who last)));
    }

-- an entry that fits, where its own Leave doesn't stand
pub numbered_fits : (m : Node) (e : Entry) → UnusedPlacesHaveNoLife (image_of_node m) → fits (image_of_node m) e ≡ true → nat_lt 0 (own_row m).left ≡ false → IsNumbered m
    → IsNumbered (push_entry m e)
numbered_fits m e used fit stays h = numbered_pushed m e (last_rises (image_of_node m) (top m + 1) e m.core.who used fit stays)
    (fits_low (image_of_node m) (top m + 1) e m.core.who fit) h

-- a member's own Leave doesn't
pub member_stays : (image : Image) (name : ℕ) → length image.rows ≡ 16 → has (members_of_image image) name ≡ true → nat_lt 0 (row_of_name image name).left ≡ false
member_stays image name long there =
    let k = has_member_is_in_row image name long there in
    let left = k.left in
    let t : ((row_at_place image name).life == life_of_name name) ≡ true = (let l = k.is in grind (arith, nat_tests)) in
    rw t (grind (arith, nat_tests))

-- and a known name that hasn't left is a member
pub known_member : (image : Image) (name : ℕ) → length image.rows ≡ 16 → ((row_of_name image name).joined == 0) ≡ false → nat_lt 0 (row_of_name image name).left ≡ false
    → has (members_of_image image) name ≡ true
known_member image name long known stays = split_on_bool ((row_at_place image name).life == life_of_name name)
    (λ t. let j : ((row_at_place image name).joined == 0) ≡ false = rw t at known in
    let l : nat_lt 0 (row_at_place image name).left ≡ false = rw t at stays in
    present_row_makes_member image name long (record { joined = grind (arith, nat_tests); left = grind (arith, nat_tests); is = grind (arith, nat_tests) }))
    (λ f. let j : (0 == 0) ≡ false = rw f at known in absurd (cc))

-- ---- what the sequencer numbers fits

pub numbers_fit : (c : Cause) (m : Node) (e : Entry) → IsNumberedBy c m e → length (image_of_node m).rows ≡ 16 → has (members m) m.core.who ≡ true → IsNumbered m
    → fits (image_of_node m) e ≡ true
unfolding fits
numbers_fit c m e (asked_send s v report req body by known stays next) long own_ h =
    let there = known_member (image_of_node m) s long known stays in
    let t : (req == (row_of_name (image_of_node m) s).last + 1) ≡ true = grind (arith, nat_tests) in
    rw (there, t) refl
numbers_fit c m e (own_send s is above) long own_ h =
    let next = h.next in
    let before = next_in_line_is_waiting m.sends.last m.sends.queue s is in
    let t : (s.req == (row_of_name (image_of_node m) m.core.who).last + 1) ≡ true = grind (arith, nat_tests) in
    rw (own_, t) refl
numbers_fit c m e (asked_join s v is other fit) long own_ h = fit
numbers_fit c m e (asked_leave s v report is other known stays) long own_ h = known_member (image_of_node m) s long known (grind (arith, nat_tests))

pub leave_fits : (m : Node) → has (members m) m.core.who ≡ true → fits (image_of_node m) (Leave m.core.who) ≡ true
unfolding fits
leave_fits m there = there

-- ---- the end of a step

pub numbered_refreshed : (m : Node) → IsNumbered m → IsNumbered (refresh m)
numbered_refreshed m h =
    let same = ap (λ (x : Node). x.core.log) (refresh_changes_only_fronts m) in
    subst IsNumbered (sym (refresh_changes_only_fronts m)) (record { line = h.line; next = h.next; low = h.low })

-- what is found has the request that is looked for
some_by : (b : Bool) (at k : ℕ) → cond b (Some at) None ≡ Some k → (b ≡ true) × (at ≡ k)
some_by true at k is = (refl, cc)
some_by false at k is = absurd (cc)

found_by : (p : Entry → Bool) (xs : List Entry) (e : Entry) → find p xs ≡ Some e → p e ≡ true
found_by p [] e is = absurd (cc)
found_by p (x ∷ xs) e is = split_on_bool (p x)
    (λ t. let here : Some x ≡ Some e = rw t at is in let same : x ≡ e = cc in ap p (sym same) ∙ t)
    (λ f. found_by p xs e (rw f at is))

found_at : (p : Entry → Bool) (xs : List Entry) (k : ℕ) → position p xs ≡ Some k → (e : Entry) × (slice_get xs k ≡ Some e) × (p e ≡ true)
found_at p xs k is =
    let s = some_by (nat_lt (position_or_len p xs) (length xs)) (position_or_len p xs) k is in
    let at = s.1 in
    let low : k < length xs = (let t = s.0 in grind (arith, nat_tests)) in
    let here : slice_get xs k ≡ Some (get_or xs k (Join 0)) = slice_get-get_or xs k (Join 0) low in
    (get_or xs k (Join 0), here, found_by p xs (get_or xs k (Join 0)) (find_at p xs ∙ ap (slice_get xs) at ∙ here))

data_of : (who req last : ℕ) (e : Entry) → is_data_of who req e ≡ true → OwnLow who last e → req ≤ last
data_of who req last (Data from r body) is low =
    let b = both_of_and (from == who) (r == req) is in
    let same : from ≡ who = grind (arith, nat_tests) in
    let here = low same in
    let e : r ≡ req = grind (arith, nat_tests) in
    omega arith
data_of who req last _ is low = absurd (cc)

pub numbered_settled : (m : Node) → IsNumbered m → IsNumbered (settle_waiting_send m)
numbered_settled m h = settle_keeps_property IsNumbered m h (λ s k w at.
    let t = sends_in_line_after_settle m.sends.last s.req (m.core.base + 1 + k) m.sends.queue s h.line w refl in
    let after_ = t.next in
    let P = OwnLow m.core.who (own_row m).last in
    let xs = drop (m.core.base - m.core.log.start) m.core.log.entries in
    let ys = take (m.core.acc - m.core.base) xs in
    let f = found_at (is_data_of m.core.who s.req) ys k at in
    let low : All P ys = All-take P (m.core.acc - m.core.base) xs (All-drop P (m.core.base - m.core.log.start) m.core.log.entries h.low) in
    let here = data_of m.core.who s.req (own_row m).last f.0 f.2 (item_of_index_has_property P ys k f.0 low f.1) in
    record { line = t.line; next = omega arith; low = h.low })

numbered_ended : (m : Node) → IsNumbered m → IsNumbered (refresh_at_end m)
unfolding refresh_at_end
numbered_ended m h = numbered_settled (refresh m) (numbered_refreshed m h)

-- ---- each change

numbered_looked : (m : Node) (b : Ballot) (v : BallotVerdict) → UnusedPlacesHaveNoLife (image_of_node m) → LooksAtBallot m b v → IsNumbered m → IsNumbered v.node
numbered_looked m b v used (decides may) h =
    let k = numbered_pushed m (View _) (view_rises (image_of_node m) (top m + 1) _ m.core.who used) tt h in
    record { line = k.line; next = k.next; low = k.low }
numbered_looked m b v used _ h = record { line = h.line; next = h.next; low = h.low }

-- a list that begins has nothing settled
blank_next : (m : Node) (who : ℕ) (n : ℕ) → m.core.log ≡ record { start = 0; image = blank; entries = [] } → n ≤ (row_of_name (image_of_node m) who).last + 1 → n ≤ 1
unfolding image_after_entries
blank_next m who n is low =
    let here : n ≤ (row_of_name blank who).last + 1 = subst (λ (l : Log). n ≤ (row_of_name (image_of_log l) who).last + 1) is low in
    let row : row_at_place blank who ≡ blank_row = get_or-replicate 16 (place_of_name who) blank_row blank_row (mod_sixteen_lt who) in
    let none : (row_of_name blank who).last ≡ 0 = split_on_bool ((row_at_place blank who).life == life_of_name who) (λ t. rw t (ap (λ (r : Row). r.last) row)) (λ f. rw f refl) in
    omega arith

numbered_change : (rules : Rules) {c : Cause} {o : Outcome} (m n : Node) → TrimsOnlyTakenAlongStep rules m → Change c o m n → IsNumbered m → IsNumbered n
numbered_change rules m n a refreshes h = numbered_refreshed m h
numbered_change rules m n a settles h = numbered_settled m h
numbered_change rules m n a (numbers e leads room why) h =
    let used = told_image_is_used m a.owned.fronts in
    let own_ = a.owned.leads leads in
    numbered_fits m e used (numbers_fit _ m e why used.places own_ h) (member_stays (image_of_node m) m.core.who used.places own_) h
numbered_change rules m n a (stores s v base acc number e by seq plain may) h =
    let k = numbered_fits m e (told_image_is_used m a.owned.fronts) may.fits may.stays h in
    record { line = k.line; next = k.next; low = k.low }
numbered_change rules m n a (begins_list s v base join image is o may) h =
    let asks = (both_of_and (not (s == m.core.who)) (is_member m.status || is_asking_status m.status) may.asks).1 in
    let none = a.blanked (asking_status_has_no_log m.status (rw may.no_member at asks)) in
    let first = blank_next m m.core.who (own.next_request m.sends) none.blank_ h.next in
    record { line = h.line; next = omega arith; low = All-nil _ }
numbered_change rules m n a (looks b verdict over why look is) h = numbered_looked m b verdict (told_image_is_used m a.owned.fronts) look h
numbered_change rules m n a (fetches s v base number e is by promise below who may) h =
    let k = numbered_fits m e (told_image_is_used m a.owned.fronts) may.fits may.stays h in
    record { line = k.line; next = k.next; low = k.low }
numbered_change rules m n a (stores_view s base number v is by own_ other promise below may) h =
    let k = numbered_fits m (View v) (told_image_is_used m a.owned.fronts) may.fits may.stays h in
    record { line = k.line; next = k.next; low = k.low }
numbered_change rules m n a (queues body is o member stays few) h =
    let new : OwnSend = record { req = m.sends.last + 1; body = body; number = None } in
    let same = next_in_line_after_push m.sends.last m.sends.queue new refl refl in
    let next = h.next in
    record { line = sends_in_line_after_push m.sends.last m.sends.queue new refl refl h.line; next = omega arith; low = h.low }
numbered_change rules m n a (collects req is) h = split_on_bool (own.has_settled_send req m.sends)
    (λ t.
    let low = settled_request_below_next m.sends.last req m.sends.queue h.line t in
    let r = sends_in_line_after_remove m.sends.last req m.sends.queue h.line low in
    let same = r.next in
    let next = h.next in
    rw t (record { line = r.line; next = omega arith; low = h.low }))
    (λ f. rw f (record { line = h.line; next = h.next; low = h.low }))
numbered_change rules m n a (closes leads leaves alone room) h =
    let used = told_image_is_used m a.owned.fronts in
    let own_ = a.owned.leads leads in
    let k = numbered_ended (push_entry m (Leave m.core.who)) (numbered_fits m (Leave m.core.who) used (leave_fits m own_)
    (member_stays (image_of_node m) m.core.who used.places own_) h) in
    record { line = k.line; next = k.next; low = k.low }
numbered_change rules m n a _ h = record { line = h.line; next = h.next; low = h.low }

numbered_changes : (rules : Rules) {c : Cause} {o : Outcome} (m n : Node) → HeardStampsHaveNames c → HeardWelcomeImageIsUsed c → Changes c o m n → TrimsOnlyTakenAlongStep rules m → IsNumbered m
    → IsNumbered n
numbered_changes rules m n names used unchanged a h = h
numbered_changes rules m n names used (changed {n = x} one more) a h =
    numbered_changes rules x n names used more (changes_trim_only_taken rules m x names used (changed one unchanged) a) (numbered_change rules m x a one h)

-- ---- runs

pub AllNumbered : World → Type 0
AllNumbered w = (name : ℕ) → name < 256 → IsNumbered (w.nodes name)

numbered_step : (rules : Rules) (w : World) (e : Event) (c : Cause) (s : StepResult) → WorldTrimsOnlyTaken rules w → IsCause w (acting_name w e) e.act c
    → Effect (w.nodes (acting_name w e)) c s → AllNumbered w → AllNumbered (world_with_step w e (acting_name w e) s)
unfolding world_with_step AllNumbered
numbered_step rules w e c s laws cause effect h other few =
    let name = acting_name w e in
    let low = actor_is_below_256 rules w e laws.blanks.base.named in
    let n = numbered_changes rules (w.nodes name) s.node (heard_stamps_have_names rules w e c laws.blanks.base cause) (heard_welcome_image_is_used rules w e c laws cause) effect.changes
    (each_node_trims_only_taken rules w name low laws) (h name low) in
    split_on_bool (other == name) (λ t. rw t n) (λ f. rw f (h other few))

numbered_after : (rules : Rules) (w : World) (e : Event) (v : World) → WorldTrimsOnlyTaken rules w → EventHappens w e v → AllNumbered w → AllNumbered v
unfolding world_with_record AllNumbered
numbered_after rules w e v laws (steps c s runs cause effect) h = numbered_step rules w e c s laws cause effect h
numbered_after rules w e v laws _ h = h

numbered_along : (rules : Rules) (w : World) (es : List Event) → WorldTrimsOnlyTaken rules w → AllNumbered w → AllNumbered (world_after_events w es)
unfolding world_after_events
numbered_along rules w [] laws h = h
numbered_along rules w (e ∷ es) laws h = numbered_along rules (happens w e) es (events_trim_only_taken rules w e (happens w e) (events_have_effects w e) laws)
    (numbered_after rules w e (happens w e) laws (events_have_effects w e) h)

numbered_start : (rules : Rules) → AllNumbered (start rules)
unfolding AllNumbered
numbered_start rules name few = founder_or_stranger_has IsNumbered rules name
    (record {
      line = refl;
      next = omega arith;
      low = All-cons (OwnLow name (own_row (founder rules name)).last) (founders_entry rules) [] tt (All-nil (OwnLow name (own_row (founder rules name)).last));
    })
    (record { line = refl; next = omega arith; low = All-nil (OwnLow name (own_row (stranger_node rules name)).last) })

pub run_numbered : (rules : Rules) (events : List Event) → MayFound rules → (name : ℕ) → name < 256 → IsNumbered ((run rules events).nodes name)
unfolding AllNumbered
run_numbered rules events may = numbered_along rules (start rules) events (start_trims_only_taken rules may) (numbered_start rules)

pub settled_stands : SettledStands
settled_stands rules events name may few = (run_numbered rules events may name few).next
