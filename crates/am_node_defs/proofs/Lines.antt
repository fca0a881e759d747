-- Sends stand in line through each change.
use Rattle.am_node_defs.proofs.Words.{length-append, take, drop, ◌≡◌, ℕ, ◌+◌, ◌<◌, ◌≤◌, List, [], ◌∷◌, ◌++◌, map, filter, find, length, option_map, Bool, true}
use Rattle.am_node_defs.proofs.Words.{false, not, ◌&&◌, ◌==◌, nat_lt, Option, Some, None, is_none, is_some, refl, sym, ◌∙◌, ap, subst, arith}
use Rattle.am_node_defs.proofs.Words.{list_any, list_all, refill, IfSome, nat_tests, length-map, take-append-le, take-length, greatest_number, OwnSend, send_has_request}
use Rattle.am_node_defs.proofs.Words.{is_unsettled, settle_send, next_unsettled_request, unsettled_sends_are_in_line, SendsAreWithinLimits}
use Rattle.am_node_defs.proofs.{Folds.split_on_bool_of_log}

-- ---- what a line says of its first send

record IsOpen (last : ℕ) (s : OwnSend) (ss : List OwnSend) : Type 0 where
  next : next_unsettled_request last ss ≡ s.req + 1
  rest : list_all is_unsettled ss ≡ true
  line : unsettled_sends_are_in_line last ss ≡ true

open_line : (last : ℕ) (s : OwnSend) (ss : List OwnSend) → is_unsettled s ≡ true → unsettled_sends_are_in_line last (s ∷ ss) ≡ true → IsOpen last s ss
open_line last s ss un line =
    let l = rw un at line in
    record { next = grind (arith, nat_tests); rest = grind (arith, nat_tests); line = grind (arith, nat_tests) }

record IsShut (last : ℕ) (s : OwnSend) (ss : List OwnSend) : Type 0 where
  below : s.req < next_unsettled_request last ss
  line : unsettled_sends_are_in_line last ss ≡ true

shut_line : (last : ℕ) (s : OwnSend) (ss : List OwnSend) → is_unsettled s ≡ false → unsettled_sends_are_in_line last (s ∷ ss) ≡ true → IsShut last s ss
shut_line last s ss un line =
    let l = rw un at line in
    record { below = grind (arith, nat_tests); line = grind (arith, nat_tests) }

open_made : (last : ℕ) (s : OwnSend) (ss : List OwnSend) → is_unsettled s ≡ true → IsOpen last s ss → unsettled_sends_are_in_line last (s ∷ ss) ≡ true
open_made last s ss un is =
    let next = is.next in let rest = is.rest in let line = is.line in
    let test : (s.req + 1 == next_unsettled_request last ss) ≡ true = grind (arith, nat_tests) in
    rw (un, test, rest, line) refl

shut_made : (last : ℕ) (s : OwnSend) (ss : List OwnSend) → is_unsettled s ≡ false → IsShut last s ss → unsettled_sends_are_in_line last (s ∷ ss) ≡ true
shut_made last s ss un is =
    let below = is.below in let line = is.line in
    let test : nat_lt s.req (next_unsettled_request last ss) ≡ true = grind (arith, nat_tests) in
    rw (un, test, line) refl

none_some : {A : Type 0} (x : Option A) → is_none x ≡ true → is_some x ≡ false
none_some None h = refl
none_some (Some x) h = absurd (cc)

-- ---- limits

next_low : (last : ℕ) (q : List OwnSend) → unsettled_sends_are_in_line last q ≡ true → next_unsettled_request last q ≤ last + 1
next_low last [] line = omega arith
next_low last (s ∷ ss) line = split_on_bool_of_log (is_unsettled s)
    (λ t. let is = open_line last s ss t line in let n = is.next in let low = next_low last ss is.line in rw t (omega arith))
    (λ f. let is = shut_line last s ss f line in rw f (next_low last ss is.line))

pub next_in_line_is_waiting : (last : ℕ) (q : List OwnSend) (w : OwnSend) → find is_unsettled q ≡ Some w → next_unsettled_request last q ≡ w.req
next_in_line_is_waiting last [] w is = absurd (cc)
next_in_line_is_waiting last (s ∷ ss) w is = split_on_bool_of_log (is_unsettled s)
    (λ t. let here = rw t at is in let e : s ≡ w = cc in rw t (ap (λ (x : OwnSend). x.req) e))
    (λ f. let here = rw f at is in rw f (next_in_line_is_waiting last ss w here))

pub waiting_request_le_last : (last : ℕ) (q : List OwnSend) (w : OwnSend) → unsettled_sends_are_in_line last q ≡ true → find is_unsettled q ≡ Some w → w.req ≤ last
waiting_request_le_last last [] w line is = absurd (cc)
waiting_request_le_last last (s ∷ ss) w line is = split_on_bool_of_log (is_unsettled s)
    (λ t.
    let here = rw t at is in
    let e : s ≡ w = cc in
    let same = ap (λ (x : OwnSend). x.req) e in
    let o = open_line last s ss t line in
    let n = o.next in
    let low = next_low last ss o.line in
    omega arith)
    (λ f. let here = rw f at is in let o = shut_line last s ss f line in waiting_request_le_last last ss w o.line here)

-- ---- one more

all_push : (ss : List OwnSend) (n : OwnSend) → is_unsettled n ≡ true → list_all is_unsettled ss ≡ true → list_all is_unsettled (ss ++ n ∷ []) ≡ true
all_push [] n un all = rw un refl
all_push (s ∷ ss) n un all = split_on_bool_of_log (is_unsettled s)
    (λ t. let rest = rw t at all in rw t (all_push ss n un rest))
    (λ f. let none = rw f at all in absurd (cc))

pub next_in_line_after_push : (last : ℕ) (q : List OwnSend) (n : OwnSend) → is_unsettled n ≡ true → n.req ≡ last + 1 → next_unsettled_request (last + 1) (q ++ n ∷ []) ≡ next_unsettled_request last q
next_in_line_after_push last [] n un is = rw un is
next_in_line_after_push last (s ∷ ss) n un is = split_on_bool_of_log (is_unsettled s)
    (λ t. rw t refl)
    (λ f. rw f (next_in_line_after_push last ss n un is))

pub sends_in_line_after_push : (last : ℕ) (q : List OwnSend) (n : OwnSend) → is_unsettled n ≡ true → n.req ≡ last + 1 → unsettled_sends_are_in_line last q ≡ true
    → unsettled_sends_are_in_line (last + 1) (q ++ n ∷ []) ≡ true
sends_in_line_after_push last [] n un is line = open_made (last + 1) n [] un (record { next = omega arith; rest = refl; line = refl })
sends_in_line_after_push last (s ∷ ss) n un is line = split_on_bool_of_log (is_unsettled s)
    (λ t.
    let o = open_line last s ss t line in
    let next = next_in_line_after_push last ss n un is ∙ o.next in
    open_made (last + 1) s (ss ++ n ∷ []) t (record { next = next; rest = all_push ss n un o.rest; line = sends_in_line_after_push last ss n un is o.line }))
    (λ f.
    let o = shut_line last s ss f line in
    let below = o.below in
    let next = next_in_line_after_push last ss n un is in
    shut_made (last + 1) s (ss ++ n ∷ []) f (record { below = omega arith; line = sends_in_line_after_push last ss n un is o.line }))

-- ---- the waiting send is settled

other_send : (req number : ℕ) (s : OwnSend) → (s.req ≡ req → ⊥) → settle_send req number s ≡ s
other_send req number s other = let test : (s.req == req) ≡ false = grind (arith, nat_tests) in rw test refl

all_stay : (last req number : ℕ) (q : List OwnSend) → unsettled_sends_are_in_line last q ≡ true → list_all is_unsettled q ≡ true → req < next_unsettled_request last q
    → map (settle_send req number) q ≡ q
all_stay last req number [] line all low = refl
all_stay last req number (s ∷ ss) line all low = split_on_bool_of_log (is_unsettled s)
    (λ t.
    let o = open_line last s ss t line in
    let here : req < s.req = rw t at low in
    let next = o.next in
    let same = other_send req number s (λ e. omega arith) in
    let rest = all_stay last req number ss o.line o.rest (omega arith) in
    λ k. same k ∷ rest k)
    (λ f. let none = rw f at all in absurd (cc))

settled_now : (req number : ℕ) (s : OwnSend) → s.req ≡ req → settle_send req number s ≡ record s { number = Some number }
settled_now req number s is = let test : (s.req == req) ≡ true = grind (arith, nat_tests) in rw test refl

pub record IsLineSettled (last req : ℕ) (q : List OwnSend) : Type 0 where
  pub line : unsettled_sends_are_in_line last q ≡ true
  pub next : next_unsettled_request last q ≡ req + 1

pub sends_in_line_after_settle : (last req number : ℕ) (q : List OwnSend) (w : OwnSend) → unsettled_sends_are_in_line last q ≡ true → find is_unsettled q ≡ Some w → w.req ≡ req
    → IsLineSettled last req (map (settle_send req number) q)
sends_in_line_after_settle last req number [] w line is at = absurd (cc)
sends_in_line_after_settle last req number (s ∷ ss) w line is at = split_on_bool_of_log (is_unsettled s)
    (λ t.
    let here = rw t at is in
    let e : s ≡ w = cc in
    let same : s.req ≡ req = ap (λ (x : OwnSend). x.req) e ∙ at in
    let o = open_line last s ss t line in
    let next = o.next in
    let rest = all_stay last req number ss o.line o.rest (omega arith) in
    let first = settled_now req number s same in
    let P : List OwnSend → Type 0 = λ q. IsLineSettled last req q in
    subst P (λ k. sym first k ∷ sym rest k) (record {
      line = shut_made last (record s { number = Some number }) ss refl (record { below = omega arith; line = o.line });
      next = omega arith;
    }))
    (λ f.
    let here = rw f at is in
    let o = shut_line last s ss f line in
    let below = o.below in
    let n = next_in_line_is_waiting last ss w here in
    let first = other_send req number s (λ e. omega arith) in
    let rest = sends_in_line_after_settle last req number ss w o.line here at in
    let more = rest.next in
    let P : OwnSend → Type 0 = λ x. IsLineSettled last req (x ∷ map (settle_send req number) ss) in
    subst P (sym first) (record {
      line = shut_made last s (map (settle_send req number) ss) f (record { below = omega arith; line = rest.line });
      next = rw f more;
    }))

-- ---- a settled send is removed

all_filter : (p : OwnSend → Bool) (ss : List OwnSend) → list_all is_unsettled ss ≡ true → list_all is_unsettled (filter p ss) ≡ true
all_filter p [] all = refl
all_filter p (s ∷ ss) all = split_on_bool_of_log (is_unsettled s)
    (λ t.
    let rest = rw t at all in
    split_on_bool_of_log (p s)
    (λ kept. rw (kept, t) (all_filter p ss rest))
    (λ gone. rw gone (all_filter p ss rest)))
    (λ f. let none = rw f at all in absurd (cc))

pub record SendsStayInLine (last first : ℕ) (q : List OwnSend) : Type 0 where
  pub line : unsettled_sends_are_in_line last q ≡ true
  pub next : next_unsettled_request last q ≡ first

pub sends_in_line_after_remove : (last req : ℕ) (q : List OwnSend) → unsettled_sends_are_in_line last q ≡ true → req < next_unsettled_request last q
    → SendsStayInLine last (next_unsettled_request last q) (filter (λ send. not (send_has_request req send)) q)
sends_in_line_after_remove last req [] line low = record { line = refl; next = refl }
sends_in_line_after_remove last req (s ∷ ss) line low = split_on_bool_of_log (is_unsettled s)
    (λ t.
    let o = open_line last s ss t line in
    let here : req < s.req = rw t at low in
    let next = o.next in
    let stays = sends_in_line_after_remove last req ss o.line (omega arith) in
    let kept : send_has_request req s ≡ false = grind (arith, nat_tests) in
    let more = stays.next in
    rw (kept, t) (record {
      line = open_made last s (filter (λ send. not (send_has_request req send)) ss) t
          (record { next = more ∙ next; rest = all_filter (λ send. not (send_has_request req send)) ss o.rest; line = stays.line });
      next = rw t refl;
    }))
    (λ f.
    let o = shut_line last s ss f line in
    let below = o.below in
    let here : req < next_unsettled_request last ss = rw f at low in
    let stays = sends_in_line_after_remove last req ss o.line here in
    let more = stays.next in
    split_on_bool_of_log (send_has_request req s)
    (λ gone. rw (gone, f) stays)
    (λ kept. rw (kept, f) (record {
      line = shut_made last s (filter (λ send. not (send_has_request req send)) ss) f (record { below = omega arith; line = stays.line });
      next = rw f more;
    })))

any_open : (req : ℕ) (ss : List OwnSend) → list_all is_unsettled ss ≡ true → list_any (λ send. (send.req == req) && is_some send.number) ss ≡ false
any_open req [] all = refl
any_open req (s ∷ ss) all = split_on_bool_of_log (is_none s.number)
    (λ t.
    let rest = rw t at all in
    let no : is_some s.number ≡ false = none_some s.number t in
    let here : ((s.req == req) && is_some s.number) ≡ false = grind (arith, nat_tests) in
    rw here (any_open req ss rest))
    (λ f. let none = rw f at all in absurd (cc))

pub settled_request_below_next : (last req : ℕ) (q : List OwnSend) → unsettled_sends_are_in_line last q ≡ true → list_any (λ send. (send.req == req) && is_some send.number) q ≡ true
    → req < next_unsettled_request last q
settled_request_below_next last req [] line any = absurd (cc)
settled_request_below_next last req (s ∷ ss) line any = split_on_bool_of_log (is_none s.number)
    (λ t.
    let o = open_line last s ss t line in
    let no : is_some s.number ≡ false = none_some s.number t in
    let here : ((s.req == req) && is_some s.number) ≡ false = grind (arith, nat_tests) in
    let none = any_open req ss o.rest in
    let some = rw (here, none) at any in
    absurd (cc))
    (λ f.
    let o = shut_line last s ss f line in
    let below = o.below in
    rw f (split_on_bool_of_log ((s.req == req) && is_some s.number)
    (λ h. let e : s.req ≡ req = grind (arith, nat_tests) in omega arith)
    (λ h. let rest = rw h at any in settled_request_below_next last req ss o.line rest)))

-- ---- what is kept of them

some_first : (w : Option OwnSend) (req : ℕ) → option_map {U = ℕ} (λ send. send.0) (option_map {U = ℕ × List ℕ} (λ send. (send.req, send.body)) w) ≡ Some req
    → (s : OwnSend) × (w ≡ Some s) × (s.req ≡ req)
some_first None req is = absurd (cc)
some_first (Some s) req is = (s, refl, cc)

pub kept_sends_after_settle : (last req number : ℕ) (q later : List OwnSend) → SendsAreWithinLimits last q
    → option_map {U = ℕ} (λ send. send.0) (option_map {U = ℕ × List ℕ} (λ send. (send.req, send.body)) (find is_unsettled q)) ≡ Some req
    → later ≡ map (settle_send req number) q → SendsAreWithinLimits last later × (next_unsettled_request last later ≡ req + 1)
kept_sends_after_settle last req number q later kept waits is =
    let w = some_first (find is_unsettled q) req waits in
    let line = sends_in_line_after_settle last req number q w.0 kept.line w.1 w.2 in
    let long : length later ≡ length q = ap length is ∙ length-map q (settle_send req number) in
    let few = kept.few in
    (record { few = omega arith; line = ap (unsettled_sends_are_in_line last) is ∙ line.line; limit = kept.limit }, ap (next_unsettled_request last) is ∙ line.next)

pub kept_sends_after_push : (last : ℕ) (q later : List OwnSend) (n : OwnSend) → SendsAreWithinLimits last q → length q < 4 → last < greatest_number → is_unsettled n ≡ true
    → n.req ≡ last + 1 → later ≡ q ++ n ∷ [] → SendsAreWithinLimits (last + 1) later × (next_unsettled_request (last + 1) later ≡ next_unsettled_request last q)
kept_sends_after_push last q later n kept few low un req is =
    let long : length later ≡ length q + 1 = ap length is ∙ length-append q (n ∷ []) in (
      record { few = omega arith; line = ap (unsettled_sends_are_in_line (last + 1)) is ∙ sends_in_line_after_push last q n un req kept.line; limit = omega arith },
      ap (next_unsettled_request (last + 1)) is
          ∙ next_in_line_after_push last q n un req,
    )

shorter : (p : OwnSend → Bool) (q : List OwnSend) → length (filter p q) ≤ length q
shorter p [] = omega arith
shorter p (s ∷ ss) = let rest = shorter p ss in split_on_bool_of_log (p s) (λ t. rw t (omega arith)) (λ f. rw f (omega arith))

pub kept_sends_after_remove : (last req : ℕ) (q later : List OwnSend) → SendsAreWithinLimits last q → req < next_unsettled_request last q → later ≡ filter (λ send. not (send_has_request req send)) q
    → SendsAreWithinLimits last later × (next_unsettled_request last later ≡ next_unsettled_request last q)
kept_sends_after_remove last req q later kept low is =
    let line = sends_in_line_after_remove last req q kept.line low in
    let long = shorter (λ send. not (send_has_request req send)) q in
    let few = kept.few in
    let same = ap length is in
    (record { few = omega arith; line = ap (unsettled_sends_are_in_line last) is ∙ line.line; limit = kept.limit }, ap (next_unsettled_request last) is ∙ line.next)

abbrev first_or_none : Option (ℕ × List ℕ) → ℕ
first_or_none None = 0
first_or_none (Some send) = send.0

some_low : (w : Option OwnSend) (last req : ℕ) (body : List ℕ) → ((s : OwnSend) → w ≡ Some s → s.req ≤ last)
    → Some (req, body) ≡ option_map {U = ℕ × List ℕ} (λ send. (send.req, send.body)) w → req ≤ last
some_low None last req body low is = absurd (cc)
some_low (Some s) last req body low is =
    let same : req ≡ s.req = ap first_or_none is in
    let most = low s refl in
    omega arith

pub waiting_request_within_numbers : {B : Type 0} (last : ℕ) (q : List OwnSend) (body : B → List ℕ) (found : Option (ℕ × B)) → SendsAreWithinLimits last q
    → option_map {U = ℕ × List ℕ} (λ send. (send.0, body send.1)) found ≡ option_map {U = ℕ × List ℕ} (λ send. (send.req, send.body)) (find is_unsettled q)
    → IfSome found (λ send. send.0 ≤ greatest_number)
waiting_request_within_numbers last q body None kept is = tt
waiting_request_within_numbers last q body (Some f) kept is =
    let limit = kept.limit in
    let low = some_low (find is_unsettled q) last f.0 (body f.1) (λ s e. waiting_request_le_last last q s kept.line e) is in
    omega arith

-- a slice that is written back whole
pub refill_of_same_length : (xs ys : List OwnSend) → length ys ≡ length xs → refill (length xs) xs ys ≡ ys
refill_of_same_length xs ys long =
    ap (λ n. take n (ys ++ drop (length ys) xs)) (sym long) ∙ take-append-le (length ys) ys (drop (length ys) xs) (omega arith) ∙ take-length ys
