-- What a letter says stays so as the group goes on.
use Rattle.am_refinement.proofs.Words.{◌≡◌, inl, inr, either, ℕ, zero, suc, ◌≤◌, List, ◌++◌, length, take, Bool, true, false, Some, slice_get, refl, sym, ap, ◌∙◌}
use Rattle.am_refinement.proofs.Words.{subst, arith, slice_get_within, Stamp, Report, Vote, Image, Entry, Data, View, has, Request, Spread, Bcast, Order, Accept}
use Rattle.am_refinement.proofs.Words.{Ack, Nack, Welcome, LeaveAsk, Gone, VoteOf, Fetch, Piece, Result, item_at, Record, IsBeginningOf, image_of_list, is_member_at_end, key_of_stamp, begins_through_both}
use Rattle.am_refinement.proofs.Words.{taken_front_begins_list, shorter_beginning_begins_longer, beginning_is_no_longer, Group, Chosen, IsThere, World, slice_get_of_front, line, AllShown, Trimmed, SequencerSays}
use Rattle.am_refinement.proofs.Words.{EntrySays, WasAsked, ReportSays, LeaverSays, of_view, before_it, WelcomeSays, WelcomeTo, has_begun, has_gone, has_left}
use Rattle.am_refinement.proofs.Words.{is_leaving, may_begin, GoneSays, has_stopped, may_go, VoteSays, own, tells, over_vote, FetchSays, for_ballot, of_promise}
use Rattle.am_refinement.proofs.Words.{PieceSays, of_line, of_shown, over, Grows, LettersStay}
use Rattle.am_refinement.proofs.Names.{take_of_longer_list}

-- ---- lists

pub item_at_of_longer_list : (a b : List Entry) (n : ℕ) (e : Entry) → IsBeginningOf a b → item_at a n ≡ Some e → item_at b n ≡ Some e
item_at_of_longer_list a b zero e h is = absurd (cc)
item_at_of_longer_list a b (suc n) e h is = ap (λ l. slice_get l n) (sym h.same) ∙ slice_get_of_front a h.rest n e is

pub item_at_number_le_length : (a : List Entry) (n : ℕ) (e : Entry) → item_at a n ≡ Some e → n ≤ length a
item_at_number_le_length a zero e is = absurd (cc)
item_at_number_le_length a (suc n) e is = (let z = slice_get_within a n e is in omega arith)

part_stays : (a b : List Entry) (n : ℕ) (l : List Entry) → IsBeginningOf a b → n ≤ length a → IsBeginningOf (take n a) l → IsBeginningOf (take n b) l
part_stays a b n l h low k = subst (λ x. IsBeginningOf x l) (sym (take_of_longer_list n a b h low)) k

-- the beginning of a beginning
part_begins : (a b : List Entry) (n : ℕ) → IsBeginningOf a b → IsBeginningOf (take n a) b
part_begins a b n h = begins_through_both (taken_front_begins_list n a) h

-- what ends stays ended, so what hasn't ended hadn't
no_more : (a b : Bool) → (a ≡ true → b ≡ true) → b ≡ false → a ≡ false
no_more true b f k = absurd (let z = f refl in cc)
no_more false b f k = refl

-- ---- of a group

module _ (w v : World) (s t : Group) (g : Grows s t) (more : (rest : List Record) × (v.records ≡ w.records ++ rest)) where
  decided_stays : (x : ℕ) → s.views.decided x ≡ true → t.views.decided x ≡ true
  decided_stays x h = (g.decided x h).0

  there_before : (i : ℕ) → IsThere (t.node i) → IsThere (s.node i)
  there_before i h = record {
    goes = no_more (s.node i).stopped (t.node i).stopped (g.each i).stopped h.goes;
    stays = no_more (s.node i).departed (t.node i).departed (g.each i).departed h.stays;
  }

  asked_stays : (name req : ℕ) (body : List ℕ) → WasAsked w name req body → WasAsked v name req body
  asked_stays name req body h =
      search (h.index, h.done, ap (λ l. slice_get l h.index) more.1 ∙ slice_get_of_front w.records more.0 h.index h.done h.there)

  pub trimmed_stays_as_letters_need : (base : ℕ) → Trimmed s base → Trimmed t base
  trimmed_stays_as_letters_need base h =
      let up = beginning_is_no_longer g.group in
      let same = take_of_longer_list base s.group t.group g.group h.accepted in
      record {
        accepted = omega arith;
        stored = λ j there stays member. subst (λ l. IsBeginningOf l (t.node j).list) (sym same)
            (begins_through_both (h.stored j (there_before j there) (no_more (s.node j).leaving (t.node j).leaving (g.each j).leaving stays)
            (subst (λ l. is_member_at_end l j ≡ true) same member)) (g.each j).list);
      }

  pub sequencer_says_still : (i : ℕ) (u : Stamp) (acc : ℕ) → SequencerSays s i u acc → SequencerSays t i u acc
  sequencer_says_still i u acc h =
      let up = beginning_is_no_longer g.group in
      record {
        by = h.by;
        decided = decided_stays (key_of_stamp u) h.decided;
        accepted = omega arith;
        before = λ x d above. either (g.new x d)
            (λ old. subst (λ (c : Chosen). acc ≤ length c.before) (sym (g.decided x old).1) (h.before x old above))
            (λ new. (let z = beginning_is_no_longer new.accepted in omega arith));
      }

  entry_stays : (i : ℕ) (u : Stamp) (acc number : ℕ) (e : Entry) → EntrySays s i u acc number e → EntrySays t i u acc number e
  entry_stays i u acc number e h = record {
    sequencer = sequencer_says_still i u acc h.sequencer;
    stands = item_at_of_longer_list (line s u) (line t u) number e (g.lines (key_of_stamp u) h.sequencer.decided) h.stands;
  }

  report_stays : (i : ℕ) (u : Stamp) (report : Report) → ReportSays s i u report → ReportSays t i u report
  report_stays i u report h =
      let up = beginning_is_no_longer (g.each i).list in
      record {
        decided = decided_stays (key_of_stamp u) h.decided;
        within = omega arith;
        begins = part_stays (s.node i).list (t.node i).list report.stored (line t u) (g.each i).list h.within
            (begins_through_both h.begins (g.lines (key_of_stamp u) h.decided));
      }

  leaver_stays : (i : ℕ) (u : Stamp) (report : Report) → LeaverSays s i u report → LeaverSays t i u report
  leaver_stays i u report (of_view leaves h) = of_view ((g.each i).leaving leaves) (report_stays i u report h)
  leaver_stays i u report (before_it leaves h) =
      let up = beginning_is_no_longer (g.each i).list in
      let accepted = h.accepted in
      let more = beginning_is_no_longer g.group in
      let same = take_of_longer_list h.join s.group t.group g.group h.accepted in
      before_it ((g.each i).leaving leaves) (record {
        within = omega arith;
        join = h.join;
        accepted = omega arith;
        joined = subst (λ l. is_member_at_end l i ≡ true) (sym same) h.joined;
        later = λ d. subst (λ l. IsBeginningOf l (t.views.chosen (key_of_stamp u)).before) (sym same) (either (g.new (key_of_stamp u) d)
            (λ old. subst (λ (c : Chosen). IsBeginningOf (take h.join s.group) c.before) (sym (g.decided (key_of_stamp u) old).1) (h.later old))
            (λ new. part_begins s.group (t.views.chosen (key_of_stamp u)).before h.join new.accepted));
        begins = λ d member. part_stays (s.node i).list (t.node i).list report.stored (line t u) (g.each i).list h.within (either (g.new (key_of_stamp u) d)
            (λ old. begins_through_both (h.begins old (subst (λ (c : Chosen). has c.members i ≡ true) (g.decided (key_of_stamp u) old).1 member)) (g.lines (key_of_stamp u) old))
            (λ new. part_begins (s.node i).list (line t u) report.stored (new.leavers i leaves member)));
      })

  welcome_stays : (i : ℕ) (u : Stamp) (base join : ℕ) (image : Image) (name : ℕ) → WelcomeSays s i u base join image name
      → WelcomeSays t i u base join image name
  welcome_stays i u base join image name h =
      let above = h.above in
      let low = h.accepted in
      let more = beginning_is_no_longer g.group in
      let same = take_of_longer_list join s.group t.group g.group low in
      record {
        by = h.by;
        decided = decided_stays (key_of_stamp u) h.decided;
        above = h.above;
        accepted = omega arith;
        joined = subst (λ l. is_member_at_end l name ≡ true) (sym same) h.joined;
        first = λ a begins short. h.first a (shorter_beginning_begins_longer begins g.group (omega arith)) short;
        image_ = h.image_ ∙ ap image_of_list (sym (take_of_longer_list base s.group t.group g.group (omega arith)));
        later = λ x d up. subst (λ l. IsBeginningOf l (t.views.chosen x).before) (sym same) (either (g.new x d)
            (λ old. subst (λ (c : Chosen). IsBeginningOf (take join s.group) c.before) (sym (g.decided x old).1) (h.later x old up))
            (λ new. part_begins s.group (t.views.chosen x).before join new.accepted));
      }

  welcome_to_stays : (i : ℕ) (u : Stamp) (base join : ℕ) (image : Image) (name : ℕ) → WelcomeTo s i u base join image name
      → WelcomeTo t i u base join image name
  welcome_to_stays i u base join image name (has_begun h) = has_begun ((g.each name).log h)
  welcome_to_stays i u base join image name (has_gone h) = has_gone ((g.each name).stopped h)
  welcome_to_stays i u base join image name (has_left h) = has_left ((g.each name).departed h)
  welcome_to_stays i u base join image name (is_leaving h) = is_leaving ((g.each name).leaving h)
  welcome_to_stays i u base join image name (may_begin h) = may_begin (welcome_stays i u base join image name h)

  gone_stays : (number name : ℕ) → GoneSays s number name → GoneSays t number name
  gone_stays number name (has_stopped h) = has_stopped ((g.each name).stopped h)
  gone_stays number name (may_go before is accepted stored) = may_go before is (begins_through_both accepted g.group)
      (λ j member there stays. begins_through_both (stored j member (there_before j there) (no_more (s.node j).leaving (t.node j).leaving (g.each j).leaving stays))
      (g.each j).list)

  vote_stays : (i : ℕ) (u : Stamp) (shown : Vote) → VoteSays s i u shown → VoteSays t i u shown
  vote_stays i u shown (own h) = own h
  vote_stays i u shown (tells h) = tells (search (h.list, g.shown (key_of_stamp u) i h.list h.shown))
  vote_stays i u shown (over_vote d) = over_vote (decided_stays (key_of_stamp u) d)

  pub all_shown_stay_shown : (u : Stamp) (h : ℕ) → AllShown s u h → AllShown t u h
  all_shown_stay_shown u h k = record {
    list = k.list;
    shown = g.shown (key_of_stamp u) h k.list k.shown;
    others = λ j member there. either (k.others j member (there_before j there))
        (λ z. inl z)
        (λ z. inr (z.0, g.shown (key_of_stamp u) j z.0 z.1));
  }

  fetch_stays : (i : ℕ) (u : Stamp) (to : List ℕ) → FetchSays s i u to → FetchSays t i u to
  fetch_stays i u to (for_ballot by h) = for_ballot by (λ j in_. all_shown_stay_shown u j (h j in_))
  fetch_stays i u to (of_promise by h) = of_promise by h

  piece_stays : (i : ℕ) (u : Stamp) (number : ℕ) (e : Entry) → PieceSays s i u number e → PieceSays t i u number e
  piece_stays i u number e (of_line by d h) = of_line by (decided_stays (key_of_stamp u) d) (item_at_of_longer_list (line s u) (line t u) number e (g.lines (key_of_stamp u) d) h)
  piece_stays i u number e (of_shown h) = of_shown
      (record { served = g.served (key_of_stamp u) i h.served; list = h.list; shown = g.shown (key_of_stamp u) i h.list h.shown; stands = h.stands })
  piece_stays i u number e (over by d) = over by (decided_stays (key_of_stamp u) d)

-- ---- each kind

pub letters_stay_as_group_grows : LettersStay
letters_stay_as_group_grows w v s t to (Request i u report req body) more g h = record {
  reports = report_stays w v s t g more i u report h.reports;
  asked = asked_stays w v s t g more i req body h.asked;
}
letters_stay_as_group_grows w v s t to (Spread i u report req body) more g h = record {
  reports = report_stays w v s t g more i u report h.reports;
  asked = asked_stays w v s t g more i req body h.asked;
}
letters_stay_as_group_grows w v s t to (Bcast i u base acc number e) more g h = (trimmed_stays_as_letters_need w v s t g more base h.0, entry_stays w v s t g more i u acc number e h.1)
letters_stay_as_group_grows w v s t to (Order i u base acc number from req) more g h = (
  trimmed_stays_as_letters_need w v s t g more base h.0,
  (let k = h.1 in
      record {
        body = k.body;
        entry = entry_stays w v s t g more i u acc number (Data from req k.body) k.entry;
        asked = asked_stays w v s t g more from req k.body k.asked;
      }),
)
letters_stay_as_group_grows w v s t to (Accept i u base acc high poll) more g h = (trimmed_stays_as_letters_need w v s t g more base h.0, sequencer_says_still w v s t g more i u acc h.1)
letters_stay_as_group_grows w v s t to (Ack i u report) more g h = report_stays w v s t g more i u report h
letters_stay_as_group_grows w v s t to (Nack i u report) more g h = report_stays w v s t g more i u report h
letters_stay_as_group_grows w v s t to (Welcome i u base join image) more g h = (
  trimmed_stays_as_letters_need w v s t g more base h.0,
  λ name in_. welcome_to_stays w v s t g more i u base join image name (h.1 name in_),
)
letters_stay_as_group_grows w v s t to (LeaveAsk i u report) more g h = leaver_stays w v s t g more i u report h
letters_stay_as_group_grows w v s t to (Gone i u number) more g h = λ name in_. gone_stays w v s t g more number name (h name in_)
letters_stay_as_group_grows w v s t to (VoteOf i u shown) more g h = (h.0, vote_stays w v s t g more i u shown h.1)
letters_stay_as_group_grows w v s t to (Fetch i u stored) more g h = fetch_stays w v s t g more i u to h
letters_stay_as_group_grows w v s t to (Piece i u base number e) more g h = (trimmed_stays_as_letters_need w v s t g more base h.0, piece_stays w v s t g more i u number e h.1)
letters_stay_as_group_grows w v s t to (Result i base number u) more g h = (
  trimmed_stays_as_letters_need w v s t g more base h.0,
  λ own. (let k = h.1 own in
      record {
        by = k.by;
        decided = decided_stays w v s t g more (key_of_stamp u.stamp) k.decided;
        stands = item_at_of_longer_list (line s u.stamp) (line t u.stamp) number (View u) (g.lines (key_of_stamp u.stamp) k.decided) k.stands;
      }),
)
letters_stay_as_group_grows w v s t to _ more g h = tt
