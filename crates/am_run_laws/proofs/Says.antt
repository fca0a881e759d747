-- What each letter says is so, in a run without a ballot.
use Rattle.am_run_laws.proofs.UnballotedWords.{◌≡◌, ◌≢◌, ⊎_elim, ℕ, ◌+◌, ◌-◌, ◌<◌, ◌≤◌, ◌==◌, true, List, [], ◌∷◌, ◌++◌, length, take, Some, None, slice_get}
use Rattle.am_run_laws.proofs.UnballotedWords.{slice_index, refl, sym, ap, ◌∙◌, subst, arith, nat_tests, get_or-replicate, get_or-set_same, get_or-set_other, Stamp}
use Rattle.am_run_laws.proofs.UnballotedWords.{Row, Image, Entry, Data, Join, View, Rules, has, place_of_name, life_of_name, empty_set_of_names, image_with_row, blank, image_after_entries, after, row_at_place}
use Rattle.am_run_laws.proofs.UnballotedWords.{row_of_name, log_image_at, log_entry_at, image_of_log, Packet, Letter, goes_to_any, item_at, Node, set_of_one_name, is_member, is_sequencer}
use Rattle.am_run_laws.proofs.UnballotedWords.{acts_in_its_view, founding_stamp, founders_entry, members_of_view_entry, split_on_bool, both_of_and, image_of_list, row_of_place, row_of_with_row, image_after_pushed_entry, image_has_sixteen_rows}
use Rattle.am_run_laws.proofs.UnballotedWords.{taken_front_begins_list, begins_push_next_entry, begins_not_longer_is_same, length_of_taken_list, length_of_pushed_list, Cause, hears, EntryStands, MayWelcome, just_joined}
use Rattle.am_run_laws.proofs.UnballotedWords.{asks_again, has_begun, goes_on, leads, decided, Says, bcast, order, welcome, invite, vote, piece, result, LetterSays}
use Rattle.am_run_laws.proofs.UnballotedWords.{entry_at_number_of_log}
use Rattle.am_step_laws.specs.Letters.{accept}
use Rattle.am_model.specs.Node as nodes
use Rattle.am_run_laws.proofs.{Lists.slice_get_is_item_at, Lists.slice_get_within_whole, UnballotedKept.first_founder_of, UnballotedKept.ListIsOfTheWhole, UnballotedKept.UnballotedFrontsAreInOrder, UnballotedKept.UnballotedPacketSays}
use Rattle.am_run_laws.proofs.{UnballotedKept.WelcomeTellsWholeListFront, UnballotedKept.UnballotedLetterSays, UnballotedKept.UnballotedCauseSays, First.ListHasOnlyFoundersView, First.image_has_founders_view, Images.list_rows_tell_their_join}
use Rattle.am_step_laws.proofs.ViewChanges.{sequencer_is_member}

-- ---- names of letters

-- the one name of a set
pub only_name_has_just_itself : (name other : ℕ) → has (set_of_one_name name) other ≡ true → other ≡ name
only_name_has_just_itself name other t =
    let low : place_of_name name < 16 = omega arith in
    let low_ : place_of_name other < 16 = omega arith in
    let life : 0 < life_of_name other = omega arith in
    split_on_bool (place_of_name other == place_of_name name)
    (λ p.
    let at : place_of_name other ≡ place_of_name name = grind (arith, nat_tests) in
    let here : slice_index (set_of_one_name name) (place_of_name other) ≡ life_of_name name = ap (slice_index (set_of_one_name name)) at
    ∙ get_or-set_same empty_set_of_names (place_of_name name) (life_of_name name) 0 (omega arith) in
    let lives : life_of_name other ≡ life_of_name name = grind (arith, nat_tests) in
    omega arith)
    (λ f.
    let ne : place_of_name other ≢ place_of_name name = (λ e. let z : ⊥ = grind (arith, nat_tests) in z) in
    let there : slice_index (set_of_one_name name) (place_of_name other) ≡ 0 = get_or-set_other empty_set_of_names (place_of_name name) (place_of_name other) (life_of_name name) 0 ne
    ∙ get_or-replicate 16 (place_of_name other) 0 0 low_ in
    absurd (let z : ⊥ = grind (arith, nat_tests) in z))

-- ---- who sends

-- a node as it is when its letters go out, before and after the step
pub record UnballotedSender (rules : Rules) (list : List Entry) (acc i : ℕ) (m n : Node) : Type 0 where
  pub who : n.core.who ≡ i
  pub log : ListIsOfTheWhole list acc n.core.log
  pub fronts : UnballotedFrontsAreInOrder (first_founder_of rules) acc i n.core
  pub promise : is_member n.status ≡ true → n.core.promise ≡ founding_stamp rules
  pub none : n.ballot ≡ None
  pub before : m.ballot ≡ None

-- the first founder has the whole list, and what it has accepted is accepted
pub record FirstFounderHasWholeList (rules : Rules) (list : List Entry) (acc : ℕ) (m n : Node) : Type 0 where
  pub high : m.core.acc ≤ n.core.acc
  pub list_ : list ≡ n.core.log.entries
  pub acc_ : acc ≡ n.core.acc
  pub start : n.core.log.start ≡ 0
  pub group : ListHasOnlyFoundersView rules list

sequencer_first : (rules : Rules) (list : List Entry) (acc i : ℕ) (m n : Node) → UnballotedSender rules list acc i m n → is_sequencer n ≡ true → i ≡ first_founder_of rules
sequencer_first rules list acc i m n h t =
    let a = both_of_and (acts_in_its_view n) ((nodes.view n).by == n.core.who) t in
    let b = (both_of_and (is_member n.status) _ a.0).1 in
    let p = h.promise (sequencer_is_member n t) in
    let by : n.core.promise.by ≡ n.core.who = (let v = nodes.view n in let c = a.1 in grind (arith, nat_tests)) in
    sym h.who ∙ sym by ∙ ap (λ (s : Stamp). s.by) p

stands_item : (rules : Rules) (list : List Entry) (acc i : ℕ) (m n : Node) (number : ℕ) (e : Entry) → UnballotedSender rules list acc i m n
    → n.core.log.start ≤ m.core.base → EntryStands n.core.log m.core.base number e → item_at list number ≡ Some e
stands_item rules list acc i m n number e h low s =
    slice_get_is_item_at list number (n.core.log.start + s.index) e (s.at low) (slice_get_within_whole list n.core.log.start n.core.log.entries s.index e h.log.within s.there)

-- ---- what the first founder tells

first_image : (rules : Rules) (list : List Entry) (acc i : ℕ) (m n : Node) (base : ℕ) → UnballotedSender rules list acc i m n → FirstFounderHasWholeList rules list acc m n
    → log_image_at n.core.log base ≡ image_of_list (take base list)
unfolding image_after_entries
first_image rules list acc i m n base h f =
    let image : n.core.log.image ≡ blank = h.log.image ∙ ap (λ k. image_of_list (take k list)) f.start in
    let one : n.core.log.start + 1 ≡ 1 = omega arith in
    let many : base - n.core.log.start ≡ base = omega arith in
    ap (λ x. image_after_entries x (n.core.log.start + 1) (take (base - n.core.log.start) n.core.log.entries)) image
    ∙ ap (λ k. image_after_entries blank k (take (base - n.core.log.start) n.core.log.entries)) one
    ∙ ap (λ k. image_after_entries blank 1 (take k n.core.log.entries)) many
    ∙ ap (λ l. image_after_entries blank 1 (take base l)) (sym f.list_)

first_told : (rules : Rules) (list : List Entry) (acc i : ℕ) (m n : Node) → UnballotedSender rules list acc i m n → FirstFounderHasWholeList rules list acc m n → nodes.image_of_node n
    ≡ image_of_list list
unfolding image_after_entries
first_told rules list acc i m n h f =
    let image : n.core.log.image ≡ blank = h.log.image ∙ ap (λ k. image_of_list (take k list)) f.start in
    let one : n.core.log.start + 1 ≡ 1 = omega arith in
    ap (λ x. image_after_entries x (n.core.log.start + 1) n.core.log.entries) image ∙ ap (λ k. image_after_entries blank k n.core.log.entries) one ∙ ap (λ l. image_after_entries blank 1 l) (sym f.list_)

-- the row of a name whose Join is the last entry
join_row : (list : List Entry) (k name : ℕ) → slice_get list k ≡ Some (Join name) → length list ≡ k + 1 → (row_of_name (image_of_list list) name).joined ≡ k + 1
unfolding after
join_row list k name there long =
    let a = take k list in
    let low : k ≤ length list = omega arith in
    let la = length_of_taken_list k list low in
    let next : slice_get list (length a) ≡ Some (Join name) = ap (slice_get list) la ∙ there in
    let b = begins_push_next_entry (Join name) (taken_front_begins_list k list) next in
    let lb = length_of_pushed_list a (Join name) in
    let same : a ++ Join name ∷ [] ≡ list = begins_not_longer_is_same b (omega arith) in
    let image : image_of_list list ≡ after (image_of_list a) (1 + length a) (Join name) = ap image_of_list (sym same) ∙ image_after_pushed_entry a (Join name) in
    let r : Row = record { life = life_of_name name; joined = 1 + length a; left = 0; last = 0 } in
    let row : row_at_place (after (image_of_list a) (1 + length a) (Join name)) name ≡ r = ⊎_elim
    (λ (x : (place_of_name name ≡ place_of_name name) × (row_of_place (image_with_row (image_of_list a) name r) (place_of_name name) ≡ r)). x.1)
    (λ (x : (place_of_name name ≢ place_of_name name) × (row_of_place (image_with_row (image_of_list a) name r) (place_of_name name) ≡ row_of_place (image_of_list a) (place_of_name name))). absurd (x.0 refl))
    (row_of_with_row (image_of_list a) name (place_of_name name) r (image_has_sixteen_rows a)) in
    let alive : ((row_at_place (image_of_list list) name).life == life_of_name name) ≡ true =
    (let l = ap (λ x. (row_at_place x name).life) image ∙ ap (λ (y : Row). y.life) row in grind (arith, nat_tests)) in
    let is : row_of_name (image_of_list list) name ≡ r = rw alive (ap (λ x. row_at_place x name) image ∙ row) in
    ap (λ (y : Row). y.joined) is ∙ omega arith

welcome_says : (rules : Rules) (list : List Entry) (acc i : ℕ) (m n : Node) (s : ℕ) → UnballotedSender rules list acc i m n → FirstFounderHasWholeList rules list acc m n
    → is_sequencer n ≡ true → MayWelcome m n s → WelcomeTellsWholeListFront rules list acc s n.core.promise n.core.base (row_of_name (nodes.image_of_node n) s).joined
    (log_image_at n.core.log n.core.base)
welcome_says rules list acc i m n s h f t (just_joined number next high low stands) =
    let told_ = first_told rules list acc i m n h f in
    let same = ap (λ x. (row_of_name x s).joined) told_ in
    let entries = sym f.list_ in
    let zero : n.core.log.start ≤ m.core.base = omega arith in
    let at = stands.at zero in
    let there : slice_get list stands.index ≡ Some (Join s) = ap (λ l. slice_get l stands.index) (sym entries) ∙ stands.there in
    let long = ap length entries in
    let row = join_row list stands.index s there (omega arith) in
    let item = stands_item rules list acc i m n number (Join s) h zero stands in
    let is : (row_of_name (nodes.image_of_node n) s).joined ≡ number = same ∙ row ∙ omega arith in
    record {
      stamp = h.promise (sequencer_is_member n t);
      low = omega arith;
      tells = λ b. first_image rules list acc i m n n.core.base h f;
      joined = λ z. ap (item_at list) is ∙ item;
    }
welcome_says rules list acc i m n s h f t (asks_again same lives some stays low behind) =
    let image : nodes.image_of_node m ≡ image_of_list list = ap image_of_log (sym same) ∙ first_told rules list acc i m n h f in
    let q = row_at_place (nodes.image_of_node m) s in
    let is_q : q ≡ row_at_place (image_of_list list) s = ap (λ x. row_at_place x s) image in
    let place : place_of_name s < 16 = omega arith in
    let row = (list_rows_tell_their_join rules list f.group).each (place_of_name s) place in
    let up : 0 < (row_at_place (image_of_list list) s).joined = subst (λ (r : Row). 0 < r.joined) is_q some in
    let alive = row.lives up in
    let life_ : (row_at_place (nodes.image_of_node m) s).life ≡ life_of_name s = lives (λ z. (let e = ap (λ (r : Row). r.life) is_q in let y : ⊥ = omega arith in y)) in
    let life : (row_at_place (image_of_list list) s).life ≡ life_of_name s = sym (ap (λ (r : Row). r.life) is_q) ∙ life_ in
    let now : ((row_at_place (nodes.image_of_node n) s).life == life_of_name s)
    ≡ true = (let e = ap (λ x. (row_at_place x s).life) (ap image_of_log same) in grind (arith, nat_tests)) in
    let is : row_of_name (nodes.image_of_node n) s ≡ row_at_place (image_of_list list) s = rw now (ap (λ x. row_at_place x s) (first_told rules list acc i m n h f)) in
    let joined = ap (λ (r : Row). r.joined) is in
    let joined_q = ap (λ (r : Row). r.joined) is_q in
    record {
      stamp = h.promise (sequencer_is_member n t);
      low = omega arith;
      tells = λ b. first_image rules list acc i m n n.core.base h f;
      joined = λ z. ⊎_elim (λ (x : has rules.founders s ≡ true). absurd (cc))
          (λ (x : item_at list (row_at_place (image_of_list list) s).joined ≡ Some (Join s)). ap (item_at list) joined ∙ x) (row.joined s refl up life);
    }

-- the founders' View, as it is told again
result_says : (rules : Rules) (list : List Entry) (acc i : ℕ) (m n : Node) (number : ℕ) (names : List ℕ) → UnballotedSender rules list acc i m n
    → FirstFounderHasWholeList rules list acc m n → is_sequencer n ≡ true → number ≡ (nodes.image_of_node n).view_number → members_of_view_entry (log_entry_at n.core.log number) ≡ names
    → (n.core.promise ≡ founding_stamp rules) × (item_at list number ≡ Some (View (record {
      stamp = n.core.promise;
      members = names;
      resilience = (nodes.image_of_node n).resilience;
    })))
result_says rules list acc i m n number names h f t high named =
    let told_ = first_told rules list acc i m n h f in
    let v = image_has_founders_view rules list f.group in
    let stamp = h.promise (sequencer_is_member n t) in
    let one : number ≡ 1 = high ∙ ap (λ (x : Image). x.view_number) told_ ∙ v.number in
    let first : slice_get list 0 ≡ Some (founders_entry rules) = ap (λ l. slice_get l 0) f.group.is in
    let there : log_entry_at n.core.log number ≡ Some (founders_entry rules) = entry_at_number_of_log n.core.log number 0 (omega arith)
    ∙ (ap (λ l. slice_get l 0) (sym f.list_) ∙ first) in
    let founders : rules.founders ≡ names = sym (ap members_of_view_entry there) ∙ named in
    let strong : (nodes.image_of_node n).resilience ≡ rules.resilience = ap (λ (x : Image). x.resilience) told_ ∙ v.resilience in (
      stamp,
      slice_get_is_item_at list number 0 (founders_entry rules) (omega arith) first
          ∙ (λ j. Some (View (record { stamp = sym stamp j; members = founders j; resilience = sym strong j }))),
    )

-- ---- each letter

-- for whoever hears it
abbrev Right : Rules → List Entry → ℕ → List ℕ → Packet → Type 0
Right rules list acc to p = (i : ℕ) → has to i ≡ true → UnballotedPacketSays rules list acc i p

-- only the first founder leads, so it has the whole list
abbrev pub OnlyFirstFounderLeads : Rules → List Entry → ℕ → ℕ → Node → Node → Type 0
OnlyFirstFounderLeads rules list acc i m n = i ≡ first_founder_of rules → FirstFounderHasWholeList rules list acc m n

at_first : (rules : Rules) (list : List Entry) (acc i : ℕ) (m n : Node) → UnballotedSender rules list acc i m n → OnlyFirstFounderLeads rules list acc i m n → is_sequencer n ≡ true
    → n.core.log.start ≤ m.core.base
at_first rules list acc i m n h f t = let s = (f (sequencer_first rules list acc i m n h t)).start in omega arith

-- who is asked for entries has the list that it had
abbrev pub FetchedNodeKeepsStart : Cause → Node → Node → Type 0
FetchedNodeKeepsStart c m n = (s : ℕ) (v : Stamp) (stored : ℕ) → c ≡ hears (Packet.Fetch s v stored) → n.core.log.start ≤ m.core.base

said : (rules : Rules) (list from : List Entry) (acc low i : ℕ) (m n : Node) (c : Cause) (to : List ℕ) (p : Packet) → UnballotedSender rules list acc i m n
    → OnlyFirstFounderLeads rules list acc i m n → FetchedNodeKeepsStart c m n → UnballotedCauseSays rules from low i c → Says m c n to p → Right rules list acc to p
said rules list from acc low i m n c to p h f g w (bcast x number e a s) j t =
    (h.fronts.accepted, stands_item rules list acc i m n number e h (at_first rules list acc i m n h f a) s)
said rules list from acc low i m n c to p h f g w (order x number name req v report body a b s) j t =
    (h.fronts.accepted, body, stands_item rules list acc i m n number (Data name req body) h (at_first rules list acc i m n h f b) s)
said rules list from acc low i m n c to p h f g w (accept x poll a) j t = h.fronts.accepted
said rules list from acc low i m n c to p h f g w (welcome s a b) j t =
    let same = only_name_has_just_itself s j t in
    let first = f (sequencer_first rules list acc i m n h a) in
    subst (λ x. WelcomeTellsWholeListFront rules list acc x n.core.promise n.core.base (row_of_name (nodes.image_of_node n) s).joined (log_image_at n.core.log n.core.base)) (sym same)
    (welcome_says rules list acc i m n s h first a b)
said rules list from acc low i m n c to p h f g w (invite x (has_begun b is stamp)) j t = let z = h.none in absurd (cc)
said rules list from acc low i m n c to p h f g w (invite x (goes_on b is)) j t = let z = h.before in let y = is.last in absurd (cc)
said rules list from acc low i m n c to p h f g w (vote s v is) j t = absurd (subst (UnballotedCauseSays rules from low i) is w)
said rules list from acc low i m n c to p h f g w (piece s v stored number e is a b) j t = stands_item rules list acc i m n number e h (g s v stored is) b
said rules list from acc low i m n c to p h f g w (result x number names a b (leads d)) j t =
    result_says rules list acc i m n number names h (f (sequencer_first rules list acc i m n h d)) d a b
said rules list from acc low i m n c to p h f g w (result x number names a b (decided ballot k l is d q)) j t = let z = h.none in absurd (cc)
said rules list from acc low i m n c to p h f g w _ j t = tt

-- a Join is asked for of every life, and tells nothing
any_says : (rules : Rules) (list : List Entry) (acc i : ℕ) (p : Packet) → goes_to_any p ≡ true → UnballotedPacketSays rules list acc i p
any_says rules list acc i (Packet.Bcast s v base a number e) t = absurd (cc)
any_says rules list acc i (Packet.Order s v base a number from req) t = absurd (cc)
any_says rules list acc i (Packet.Accept s v base a high poll) t = absurd (cc)
any_says rules list acc i (Packet.Welcome s v base join image) t = absurd (cc)
any_says rules list acc i (Packet.Invite s v) t = absurd (cc)
any_says rules list acc i (Packet.Vote s v shown) t = absurd (cc)
any_says rules list acc i (Packet.Piece s v base number e) t = absurd (cc)
any_says rules list acc i (Packet.Result s base number v) t = absurd (cc)
any_says rules list acc i _ t = tt

pub unballoted_letter_says_so : (rules : Rules) (list from : List Entry) (acc low i : ℕ) (m n : Node) (c : Cause) (letter : Letter) → UnballotedSender rules list acc i m n
    → OnlyFirstFounderLeads rules list acc i m n → FetchedNodeKeepsStart c m n → UnballotedCauseSays rules from low i c → LetterSays m c n letter → UnballotedLetterSays rules list acc letter
unballoted_letter_says_so rules list from acc low i m n c letter h f g w s =
    record {
      heard = λ j t. split_on_bool letter.any (λ a. any_says rules list acc j letter.packet (sym s.any ∙ a))
          (λ a. said rules list from acc low i m n c letter.to letter.packet h f g w s.says j (rw a at t));
    }
