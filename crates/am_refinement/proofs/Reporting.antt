-- What is reported to a node stays true through each of its changes.
use Rattle.am_refinement.proofs.Words.{◌≡◌, ◌⊎◌, inl, inr, either, ℕ, ◌+◌, ◌<◌, ◌≤◌, ◌==◌, ◌&&◌, max, not, nat_lt, Bool, true, false, List, [], ◌∷◌, ◌++◌}
use Rattle.am_refinement.proofs.Words.{length, take, slice_index, refl, sym, ap, ◌∙◌, subst, arith, nat_tests, Entry, Data, Join, Leave, View, Report, Row, Image}
use Rattle.am_refinement.proofs.Words.{GroupView, Stamp, place_of_name, life_of_name, is_blank_image, row_at_place, row_of_name, member_life_of_row, image_with_row, row_after_view, fits, after}
use Rattle.am_refinement.proofs.Words.{reports_after_report, reports_with_joiner, reports_beginning_at, IsBeginningOf, IsGoodList, image_of_list, is_member_at_end, stamp_of_list, key_of_stamp, list_begins_itself, front_begins_append}
use Rattle.am_refinement.proofs.Words.{begins_through_both, shorter_beginning_begins_longer, beginning_is_no_longer, taken_front_begins_list, begins_push_or_is_push, length_of_pushed_list, length_of_taken_list, take_length_of_beginning, row_of_place, IsMemberRow}
use Rattle.am_refinement.proofs.Words.{mod_sixteen_lt, row_of_with_row, row_after_pushed_view, blank_image_has_nobody_joined, beginning_of_good_is_good, image_after_pushed_entry, image_has_sixteen_rows, member_has_member_row, member_row_gives_member, member_of_both_is_between, member_of_pushed_view_members, Group}
use Rattle.am_refinement.proofs.Words.{list_with_chosen_view, is_view, split_on_bool, plain_entry_keeps_image_view, line, IsDecided, ReportSays, LeaverSays, of_view, before_it, IsConcerned, Reporting}
use Rattle.am_refinement.proofs.Words.{JoinIsNew, IsNotView, le_or_gt}
use Rattle.am_abstract_group.specs.Group as groups
use Rattle.am_refinement.proofs.Membership.Joins.{BecameMemberBy, stayed, joins, founds, new_member_came_by_entry, blank_image_is_of_nil}
use Rattle.am_refinement.proofs.Parts.{view_number_le_length, view_number_after_view}
use Rattle.am_refinement.proofs.{Sending.last_view_number_and_resilience, Names.take_of_longer_list}

-- ---- who is concerned by a list with one entry more, and what is reported of it

-- ---- who is a member after an entry that is no View

no_view : (e : Entry) → IsNotView e → is_view e ≡ false
no_view (View v) h = absurd h
no_view _ h = refl

mem_back : (a : List Entry) (e : Entry) (name : ℕ) → IsNotView e → is_member_at_end (a ++ e ∷ []) name ≡ true → (is_member_at_end a name ≡ true) ⊎ (e ≡ Join name)
mem_back a e name plain h = back (new_member_came_by_entry (image_of_list a) (1 + length a) e name (image_has_sixteen_rows a) (omega arith)
    (subst (λ (i : Image). IsMemberRow (row_of_place i (place_of_name name)) (life_of_name name)) (image_after_pushed_entry a e) (member_has_member_row (a ++ e ∷ []) name h)))
  where
    back : BecameMemberBy (image_of_list a) (1 + length a) e name → (is_member_at_end a name ≡ true) ⊎ (e ≡ Join name)
    back (stayed in_ same) = inl (member_row_gives_member a name in_)
    back (joins is same) = inr is
    back (founds viewed blank_ same) = absurd (let z = no_view e plain in cc)

-- ---- and so who is concerned

concerned_push : (list : List Entry) (e : Entry) (name : ℕ) → IsNotView e → IsConcerned (list ++ e ∷ []) name
    → IsConcerned list name ⊎ (e ≡ Join name)
concerned_push list e name plain h =
    let same : (image_of_list (list ++ e ∷ [])).view_number ≡ (image_of_list list).view_number =
    ap (λ (i : Image). i.view_number) (image_after_pushed_entry list e) ∙ (plain_entry_keeps_image_view (image_of_list list) (1 + length list) e (no_view e plain)).number in
    either (begins_push_or_is_push e h.begins)
    (λ z. inl (record { upto = h.upto; begins = z; from = omega arith; member = h.member }))
    (λ z. either (mem_back list e name plain (subst (λ l. is_member_at_end l name ≡ true) z h.member))
    (λ m. inl (record { upto = list; begins = list_begins_itself list; from = view_number_le_length list; member = m }))
    (λ j. inr j))

-- ---- reports

-- where names have no less, and who is concerned above the base was so before
reporting_on : (node after_ : ℕ → groups.ChainNode) (list : List Entry) (e : Entry) (base : ℕ) (reports : ℕ → Report)
    → ((name : ℕ) → base < (reports name).stored → IsConcerned (list ++ e ∷ []) name → IsConcerned list name)
    → ((i : ℕ) → IsBeginningOf (node i).list (after_ i).list) → Reporting node list base reports → Reporting after_ (list ++ e ∷ []) base reports
reporting_on node after_ list e base reports before grow r = record {
  within = λ name. (let low = r.within name in let more = length_of_pushed_list list e in omega arith);
  taken = r.taken;
  true_ = λ name few concerned above. subst (λ l. IsBeginningOf l (after_ name).list)
      (sym (take_of_longer_list (reports name).stored list (list ++ e ∷ []) (front_begins_append list (e ∷ [])) (r.within name)))
      (begins_through_both (r.true_ name few (before name above concerned) above) (grow name));
}

-- one that joins is concerned anew, and its report is at the base
reporting_joins : (node after_ : ℕ → groups.ChainNode) (list : List Entry) (e : Entry) (base : ℕ) (reports : ℕ → Report)
    → ((name : ℕ) → IsConcerned (list ++ e ∷ []) name → IsConcerned list name ⊎ ((e ≡ Join name) ⊎ (list ≡ [])))
    → ((i : ℕ) → IsBeginningOf (node i).list (after_ i).list) → ((i : ℕ) → e ≡ Join i → (reports i).stored ≤ base)
    → Reporting node list base reports → Reporting after_ (list ++ e ∷ []) base reports
reporting_joins node after_ list e base reports before grow fresh r = reporting_on node after_ list e base reports
    (λ name above concerned. either (before name concerned)
    (λ z. z)
    (λ z. absurd (either z
    (λ y. (let low = fresh name y in let x : ⊥ = omega arith in x))
    (λ y. (let low = r.within name in let none = ap length y in let x : ⊥ = omega arith in x)))))
    grow r

pub reports_true_with_plain_entry : (node after_ : ℕ → groups.ChainNode) (list : List Entry) (e : Entry) (base : ℕ) (reports : ℕ → Report) → IsNotView e
    → ((i : ℕ) → IsBeginningOf (node i).list (after_ i).list) → ((i : ℕ) → e ≡ Join i → (reports i).stored ≤ base)
    → Reporting node list base reports → Reporting after_ (list ++ e ∷ []) base reports
reports_true_with_plain_entry node after_ list e base reports plain = reporting_joins node after_ list e base reports (λ name concerned.
    either (concerned_push list e name plain concerned)
    (λ z. inl z)
    (λ z. inr (inl z)))

-- ---- reports, while names have no less

pub reports_true_as_lists_grow : (node after_ : ℕ → groups.ChainNode) (list : List Entry) (base : ℕ) (reports : ℕ → Report) → ((i : ℕ) → IsBeginningOf (node i).list (after_ i).list)
    → Reporting node list base reports → Reporting after_ list base reports
reports_true_as_lists_grow node after_ list base reports grow r = record {
  within = r.within;
  taken = r.taken;
  true_ = λ name few concerned above. begins_through_both (r.true_ name few concerned above) (grow name);
}

-- a greater base
pub reports_true_of_higher_base : (node : ℕ → groups.ChainNode) (list : List Entry) (base more : ℕ) (reports : ℕ → Report) → base ≤ more → Reporting node list base reports
    → Reporting node list more reports
reports_true_of_higher_base node list base more reports up r = record {
  within = r.within;
  taken = r.taken;
  true_ = λ name few concerned above. r.true_ name few concerned
      (omega arith);
}

-- all begin anew
pub first_reports_are_true : (node : ℕ → groups.ChainNode) (list : List Entry) (base : ℕ) → base ≤ length list → Reporting node list base (reports_beginning_at base)
first_reports_are_true node list base low = record {
  within = λ name. split_on_bool (nat_lt name 256) (λ t. rw t low) (λ f. rw f (omega arith));
  taken = λ name. split_on_bool (nat_lt name 256) (λ t. rw t (omega arith)) (λ f. rw f (omega arith));
  true_ = λ name few concerned. split_on_bool (nat_lt name 256) (λ t. rw t (λ above. absurd (omega arith))) (λ f. rw f (λ above. absurd (omega arith)));
}

-- one that begins at the base
pub admitted_report_is_true : (node : ℕ → groups.ChainNode) (list : List Entry) (base who : ℕ) (reports : ℕ → Report) → base ≤ length list → Reporting node list base reports
    → Reporting node list base (reports_with_joiner reports who base)
admitted_report_is_true node list base who reports low r = record {
  within = λ name. split_on_bool (name == who) (λ t. rw t low) (λ f. rw f (r.within name));
  taken = λ name. split_on_bool (name == who) (λ t. rw t (omega arith)) (λ f. rw f (r.taken name));
  true_ = λ name few concerned. split_on_bool (name == who) (λ t. rw t (λ above. absurd (omega arith))) (λ f. rw f (r.true_ name few concerned));
}

-- one more, that is true where its name is concerned
pub one_more_report_is_true : (node : ℕ → groups.ChainNode) (list : List Entry) (base who : ℕ) (report : Report) (reports : ℕ → Report) → report.stored ≤ length list
    → report.taken ≤ report.stored → (IsConcerned list who → IsBeginningOf (take report.stored list) (node who).list) → Reporting node list base reports
    → Reporting node list base (reports_after_report reports who report)
one_more_report_is_true node list base who report reports low took its r = record {
  within = λ name. split_on_bool (name == who) (λ t. (let old = r.within who in let same : name ≡ who = grind (arith, nat_tests) in
      rw t (let z = r.within name in omega arith))) (λ f. rw f (r.within name));
  taken = λ name. split_on_bool (name == who) (λ t. (let old = r.taken who in rw t (omega arith))) (λ f. rw f (r.taken name));
  true_ = λ name few concerned. split_on_bool (name == who)
      (λ t. (let same : name ≡ who = grind (arith, nat_tests) in
      let here = its (subst (IsConcerned list) same concerned) in
      let old = (reports who).stored in
      let both : max old report.stored ≤ old → base < max old report.stored → IsBeginningOf (take (max old report.stored) list) (node name).list = λ low above.
      (let is : max old report.stored ≡ old = omega arith in
      subst (λ k. IsBeginningOf (take k list) (node name).list) (sym is)
      (subst (λ k. IsBeginningOf (take (reports k).stored list) (node name).list) same
      (r.true_ name few concerned (let z = ap (λ k. (reports k).stored) same in omega arith)))) in
      rw t (λ above. either (le_or_gt (max old report.stored) old)
      (λ z. both z above)
      (λ z. (let is : max old report.stored ≡ report.stored = omega arith in
      subst (λ k. IsBeginningOf (take k list) (node name).list) (sym is) (subst (λ k. IsBeginningOf (take report.stored list) (node k).list) (sym same) here))))))
      (λ f. rw f (r.true_ name few concerned));
}

-- ---- an entry more

member_before : (a : List Entry) (e : Entry) (name : ℕ) → IsGoodList a → is_member_at_end (a ++ e ∷ []) name ≡ true → (is_member_at_end a name ≡ true) ⊎ ((e ≡ Join name) ⊎ (a ≡ []))
member_before a e name good h = by_kind (new_member_came_by_entry (image_of_list a) (1 + length a) e name (image_has_sixteen_rows a) (omega arith)
    (subst (λ (i : Image). IsMemberRow (row_of_place i (place_of_name name)) (life_of_name name)) (image_after_pushed_entry a e) (member_has_member_row (a ++ e ∷ []) name h)))
  where
    by_kind : BecameMemberBy (image_of_list a) (1 + length a) e name → (is_member_at_end a name ≡ true) ⊎ ((e ≡ Join name) ⊎ (a ≡ []))
    by_kind (stayed in_ same) = inl (member_row_gives_member a name in_)
    by_kind (joins is same) = inr (inl is)
    by_kind (founds viewed_ blank_ same) = inr (inr (blank_image_is_of_nil a good blank_))

concerned_before : (a : List Entry) (e : Entry) (name : ℕ) → IsGoodList a → IsConcerned (a ++ e ∷ []) name → IsConcerned a name ⊎ ((e ≡ Join name) ⊎ (a ≡ []))
concerned_before a e name good h = either (begins_push_or_is_push e h.begins)
    (λ z. inl (record { upto = h.upto; begins = z; from = low z; member = h.member }))
    (λ z. either (member_before a e name good (subst (λ l. is_member_at_end l name ≡ true) z h.member))
    (λ m. inl (record { upto = a; begins = list_begins_itself a; from = view_number_le_length a; member = m }))
    (λ y. inr y))
  where
    low : IsBeginningOf h.upto a → (image_of_list a).view_number ≤ length h.upto
    low z =
        let short = beginning_is_no_longer z in
        let last = ap (λ (i : Image). i.view_number) (image_after_pushed_entry a e) in
        split_on_bool (is_view e)
        (λ t. absurd (let is = view_number_after_view (image_of_list a) (1 + length a) e t in omega arith))
        (λ f. (let is = (plain_entry_keeps_image_view (image_of_list a) (1 + length a) e f).number in omega arith))

pub reports_true_with_fitting_entry : (node after_ : ℕ → groups.ChainNode) (list : List Entry) (e : Entry) (base : ℕ) (reports : ℕ → Report) → IsGoodList list
    → ((i : ℕ) → IsBeginningOf (node i).list (after_ i).list) → ((i : ℕ) → e ≡ Join i → (reports i).stored ≤ base)
    → Reporting node list base reports → Reporting after_ (list ++ e ∷ []) base reports
reports_true_with_fitting_entry node after_ list e base reports good = reporting_joins node after_ list e base reports
    (λ name concerned. concerned_before list e name good concerned)

-- ---- who may join yet

pub fitting_join_has_new_name : (image : Image) (name : ℕ) → fits image (Join name) ≡ true → JoinIsNew image name
unfolding fits
fitting_join_has_new_name image name fit = split_on_bool ((row_at_place image name).joined == 0)
    (λ t. inl (grind (arith, nat_tests)))
    (λ f. inr (let rest : (nat_lt 0 (row_at_place image name).left && nat_lt (row_at_place image name).life (life_of_name name)) ≡ true = rw f at fit in
    grind (arith, nat_tests)))

-- by the row of its place
abbrev NewRow : Row → ℕ → Type 0
NewRow r life = (r.joined ≡ 0) ⊎ (r.life < life)

row_before : (image : Image) (who name : ℕ) (r : Row) → length image.rows ≡ 16
    → (place_of_name name ≡ place_of_name who → NewRow r (life_of_name name) → NewRow (row_of_place image (place_of_name name)) (life_of_name name))
    → NewRow (row_of_place (image_with_row image who r) (place_of_name name)) (life_of_name name) → NewRow (row_of_place image (place_of_name name)) (life_of_name name)
row_before image who name r long here h = either (row_of_with_row image who (place_of_name name) r long)
    (λ z. here z.0 (subst (λ q. NewRow q (life_of_name name)) z.1 h))
    (λ z. subst (λ q. NewRow q
    (life_of_name name)) z.1 h)

join_row : (image : Image) (joiner name n : ℕ) → 0 < n → JoinIsNew image joiner → place_of_name name ≡ place_of_name joiner
    → NewRow (record { life = life_of_name joiner; joined = n; left = 0; last = 0 }) (life_of_name name) → NewRow (row_of_place image (place_of_name name)) (life_of_name name)
join_row image joiner name n some new place h =
    let at = ap (λ p. row_of_place image p) place in
    subst (λ r. NewRow r (life_of_name name)) (sym at) (either h
    (λ z. absurd (omega arith))
    (λ z. either new (λ y. inl y)
    (λ y. inr (omega arith))))

viewed_row : (first : Bool) (n given life : ℕ) (r : Row) → (first ≡ true → r.joined ≡ 0) → NewRow (row_after_view first n given r) life → NewRow r life
viewed_row true n given life r none = λ h. inl (none refl)
viewed_row false n given life r none = split_on_bool (nat_lt 0 (member_life_of_row r) && not (member_life_of_row r == given))
    (λ t. rw t (λ h. h))
    (λ f. rw f (λ h. h))

-- who may join after an entry that fits might have before it
pub new_name_was_new_before : (image : Image) (n : ℕ) (e : Entry) (name : ℕ) → length image.rows ≡ 16 → 0 < n → fits image e ≡ true → JoinIsNew (after image n e) name
    → JoinIsNew image name
unfolding after
new_name_was_new_before image n (Data from req body) name long some fit = split_on_bool ((row_at_place image from).life == life_of_name from)
    (λ t. rw t (row_before image from name (record (row_at_place image from) { last = req }) long
    (λ place h. (let at = ap (λ p. row_of_place image p) place in subst (λ r. NewRow r (life_of_name name)) (sym at) h))))
    (λ f. rw f (λ h. h))
new_name_was_new_before image n (Join joiner) name long some fit =
    row_before image joiner name (record { life = life_of_name joiner; joined = n; left = 0; last = 0 }) long
    (join_row image joiner name n some (fitting_join_has_new_name image joiner fit))
new_name_was_new_before image n (Leave leaver) name long some fit = split_on_bool ((row_at_place image leaver).life == life_of_name leaver)
    (λ t. rw t (row_before image leaver name (record (row_at_place image leaver) { left = n }) long
    (λ place h. (let at = ap (λ p. row_of_place image p) place in subst (λ r. NewRow r (life_of_name name)) (sym at) h))))
    (λ f. rw f (λ h. h))
new_name_was_new_before image n (View v) name long some fit = λ h.
    let is = row_after_pushed_view image n v (place_of_name name) (mod_sixteen_lt name) in
    viewed_row (is_blank_image image) n (slice_index v.members (place_of_name name)) (life_of_name name) (row_of_place image (place_of_name name)) (blank_image_has_nobody_joined image (place_of_name name))
    (subst (λ r. NewRow r (life_of_name name)) is h)

-- who is known to a sequencer isn't new
pub known_name_is_not_new : (image : Image) (name : ℕ) → ((row_of_name image name).joined == 0) ≡ false → JoinIsNew image name → ⊥
known_name_is_not_new image name known new = split_on_bool ((row_at_place image name).life == life_of_name name)
    (λ t. (let z : ((row_at_place image name).joined == 0) ≡ false = rw t at known in
    either new (λ y. (let x : ⊥ = grind (arith, nat_tests) in x))
    (λ y. (let x : ⊥ = grind (arith, nat_tests) in x))))
    (λ f. (let z : (0 == 0) ≡ false = rw f at known in cc))

-- ---- a letter's report

part_true : (list own : List Entry) (n : ℕ) → n ≤ length own → IsBeginningOf (take n own) list → n ≤ length list → IsBeginningOf (take n list) own
part_true list own n within begins low =
    let long = length_of_taken_list n own within in
    let same : take n list ≡ take n own = ap (λ k. take k list) (sym long) ∙ take_length_of_beginning begins in
    subst (λ l. IsBeginningOf l own) (sym same) (taken_front_begins_list n own)

-- what is reported in the view of a sequencer's list is true of it
pub report_is_true_of_line : (s : Group) (from : ℕ) (v : Stamp) (list : List Entry) (report : Report) → line s v ≡ list → report.stored ≤ length list
    → ReportSays s from v report → IsBeginningOf (take report.stored list) (s.node from).list
report_is_true_of_line s from v list report is low h = part_true list (s.node from).list report.stored h.within
    (subst (IsBeginningOf (take report.stored (s.node from).list)) is h.begins) low

-- a leaver that is concerned by the list of its view's sequencer is one of the names that it chose, as its Join was accepted before
pub leaver_report_is_true : (s : Group) (from : ℕ) (v : Stamp) (list : List Entry) (report : Report) → IsDecided s v → line s v ≡ list → IsGoodList list
    → (s.views.chosen (key_of_stamp v)).stamp ≡ v → stamp_of_list list ≡ v → IsBeginningOf (list_with_chosen_view (s.views.chosen (key_of_stamp v))) list → report.stored ≤ length list
    → LeaverSays s from v report → IsConcerned list from → IsBeginningOf (take report.stored list) (s.node from).list
leaver_report_is_true s from v list report d is good stamp viewed opens low (of_view leaves h) concerned = report_is_true_of_line s from v list report is low h
leaver_report_is_true s from v list report d is good stamp viewed opens low (before_it leaves h) concerned =
    let c = s.views.chosen (key_of_stamp v) in
    let its : GroupView = record c.view { stamp = v } in
    let all : IsBeginningOf (c.before ++ View its ∷ []) list = subst (λ (u : Stamp). IsBeginningOf (c.before ++ View (record c.view { stamp = u }) ∷ []) list) stamp opens in
    let last = last_view_number_and_resilience c.before its list good all viewed in
    let more = length_of_pushed_list c.before (View its) in
    let inside : IsBeginningOf (c.before ++ View its ∷ []) concerned.upto = shorter_beginning_begins_longer all concerned.begins (omega arith) in
    let front = begins_through_both (h.later d) (front_begins_append c.before (View its ∷ [])) in
    let there = member_of_both_is_between from (beginning_of_good_is_good concerned.begins good) front inside h.joined concerned.member in
    let in_ = member_of_pushed_view_members c.before its from there in
    part_true list (s.node from).list report.stored h.within (subst (IsBeginningOf (take report.stored (s.node from).list)) is (h.begins d in_)) low
