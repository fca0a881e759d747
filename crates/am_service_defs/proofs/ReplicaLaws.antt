-- Entry by entry, a replica comes to the contents of the definition.
use Rattle.std.proofs.Common.{◌≡◌, ℕ, List, [], ◌∷◌, ◌++◌, Bool, true, false, cond, ◌==◌, Option, Some, None, refl, sym, ap, ◌∙◌, append_assoc}
use Rattle.std.proofs.Common.{is_some}
use Rattle.std.specs.Option.{option_map}
use Rattle.std.specs.List.{fold}
use Rattle.std.proofs.lemmas.List.{map-append}
use Rattle.am_base.specs.declared.entry.Entry.{Entry}
use Rattle.am_base.specs.declared.entry.Entry.TheVariants as entries
use Rattle.am_service_defs.specs.Messages.{entries_of, message_at}
use Rattle.am_service_defs.specs.Assembling.{Assembly, no_parts, after_entry, assembled}
use Rattle.am_service_defs.proofs.Fold.{messages_assemble}
use Rattle.am_service_defs.specs.Commands.{Command, command_of}
use Rattle.am_service_defs.specs.Contents.{Contents, applied, after_read, contents_with, contents_from}
use Rattle.am_service_defs.specs.Replicas.{or_else, snapshot_for, first_snapshot_after, first_snapshot, replica_contents, ReplicaState}
use Rattle.am_service_defs.specs.Replicas.{begin_waiting, shown, held_with, apply_held, arrived, fed, ReplicasShow}

pub fold_of_pushed_item : {A B : Type 0} (f : B → A → B) (b : B) (xs : List A) (x : A) → fold f b (xs ++ x ∷ []) ≡ f (fold f b xs) x
fold_of_pushed_item f b [] x = refl
fold_of_pushed_item f b (y ∷ xs) x = fold_of_pushed_item f (f b y) xs x

fold_append : {A B : Type 0} (f : B → A → B) (b : B) (xs ys : List A) → fold f (fold f b xs) ys ≡ fold f b (xs ++ ys)
fold_append f b [] ys = refl
fold_append f b (x ∷ xs) ys = fold_append f (f b x) xs ys

-- what is held, with an entry's body where it is a command
held_more : (c : Contents) (held : List (ℕ × List ℕ)) (pair : ℕ × List ℕ) → apply_held c (held ++ pair ∷ []) ≡ applied (apply_held c held) pair.0 pair.1
held_more c [] pair = refl
held_more c (first ∷ held) pair = held_more (applied c first.0 first.1) held pair

held_body : (contents : Contents) (held : List (ℕ × List ℕ)) (number : ℕ) (body : List ℕ) (o : Option Command) → command_of body ≡ o
    → applied (apply_held contents held) number body ≡ apply_held contents (cond (is_some (command_of body)) (held ++ (number, body) ∷ []) held)
held_body contents held number body None h =
    ap (λ (o : Option Command). after_read (apply_held contents held) number o) h
    ∙ ap (λ (o : Option Command). apply_held contents (cond (is_some o) (held ++ (number, body) ∷ []) held)) (sym h)
held_body contents held number body (Some command) h =
    sym (held_more contents held (number, body)) ∙ ap (λ (o : Option Command). apply_held contents (cond (is_some o) (held ++ (number, body) ∷ []) held))
    (sym h)

-- an entry's body applied, where it is a command, and else nothing
pub held_entry_is_applied : (contents : Contents) (held : List (ℕ × List ℕ)) (number : ℕ) (entry : Entry)
    → contents_with (apply_held contents held) (number, entry) ≡ apply_held contents (held_with held number entry)
held_entry_is_applied contents held number (entries.Data from req body) = held_body contents held number body (command_of body) refl
held_entry_is_applied contents held number (entries.Join name) = refl
held_entry_is_applied contents held number (entries.Leave name) = refl
held_entry_is_applied contents held number (entries.View v) = refl

-- a replica that waits, and one that is ready
abbrev waits : ℕ → List (ℕ × List ℕ) → Assembly → ReplicaState
waits start held assembly = record { start = start; waiting = Some (record { held = held; assembly = assembly }); contents = [] }

abbrev ready : ℕ → Contents → ReplicaState
ready start contents = record { start = start; waiting = None; contents = contents }

abbrev step : ReplicaState → ℕ × Entry → ReplicaState
step s pair = fed s pair.0 pair.1

-- ---- who is ready

ready_step : (start : ℕ) (contents : Contents) (pair : ℕ × Entry) → step (ready start contents) pair ≡ ready start (contents_with contents pair)
unfolding fed
ready_step start contents pair = refl

ready_all : (start : ℕ) (contents : Contents) (pairs : List (ℕ × Entry)) → fold step (ready start contents) pairs ≡ ready start (contents_from contents pairs)
ready_all start contents [] = refl
ready_all start contents (pair ∷ pairs) = ap (λ s. fold step s pairs) (ready_step start contents pair) ∙ ready_all start (contents_with contents pair) pairs

-- ---- who waits

abbrev held_from : List (ℕ × List ℕ) → List (ℕ × Entry) → List (ℕ × List ℕ)
held_from held pairs = fold (λ sofar pair. held_with sofar pair.0 pair.1) held pairs

abbrev held_all : List (ℕ × Entry) → List (ℕ × List ℕ)
held_all pairs = held_from [] pairs

-- what is held is what counts of the entries
held_is : (contents : Contents) (held : List (ℕ × List ℕ)) (pairs : List (ℕ × Entry))
    → apply_held contents (held_from held pairs) ≡ contents_from (apply_held contents held) pairs
held_is contents held [] = refl
held_is contents held (pair ∷ pairs) =
    held_is contents (held_with held pair.0 pair.1) pairs
    ∙ ap (λ c. contents_from c pairs) (sym (held_entry_is_applied contents held pair.0 pair.1))

abbrev so_far : ℕ → List (ℕ × Entry) → ReplicaState
so_far start before = waits start (held_all before) (assembled (entries_of before))

entries_push : (before : List (ℕ × Entry)) (pair : ℕ × Entry) → entries_of (before ++ pair ∷ []) ≡ entries_of before ++ pair.1 ∷ []
entries_push before pair = map-append (λ p. p.1) before (pair ∷ [])

-- one entry more
wait_step : (start : ℕ) (before : List (ℕ × Entry)) (pair : ℕ × Entry) → step (so_far start before) pair
    ≡ arrived (so_far start before) (record { held = held_all (before ++ pair ∷ []); assembly = assembled (entries_of (before ++ pair ∷ [])) })
    (snapshot_for start (message_at (entries_of (before ++ pair ∷ []))))
unfolding fed
wait_step start before pair =
    let a0 = assembled (entries_of before) in
    let all = before ++ pair ∷ [] in
    let held : held_with (held_all before) pair.0 pair.1 ≡ held_all all = sym (fold_of_pushed_item (λ sofar p. held_with sofar p.0 p.1) [] before pair) in
    let after : after_entry a0 pair.1 ≡ assembled (entries_of all)
    = sym (fold_of_pushed_item after_entry no_parts (entries_of before) pair.1) ∙ ap (λ (es : List Entry). assembled es) (sym (entries_push before pair)) in
    let ended : (after_entry a0 pair.1).ended ≡ message_at (entries_of all) = ap (λ (a : Assembly). a.ended) after
    ∙ (messages_assemble (entries_of all)).ended in
    ap (λ (h : List (ℕ × List ℕ)). arrived (so_far start before) (record { held = h; assembly = after_entry a0 pair.1 }) (snapshot_for start (after_entry
    a0 pair.1).ended)) held
    ∙ ap (λ (a : Assembly). arrived (so_far start before) (record { held = held_all all; assembly = a }) (snapshot_for start (after_entry a0
    pair.1).ended)) after
    ∙ ap (λ (m : Option (ℕ × List ℕ)). arrived (so_far start before) (record { held = held_all all; assembly = assembled (entries_of all) })
    (snapshot_for start m)) ended

-- it ends a snapshot for the start
wait_ends : (start : ℕ) (before rest : List (ℕ × Entry)) (pair : ℕ × Entry) (contents : Contents)
    → snapshot_for start (message_at (entries_of (before ++ pair ∷ []))) ≡ Some contents
    → shown (fold step (so_far start before) (pair ∷ rest)) ≡ Some (contents_from contents (before ++ pair ∷ [] ++ rest))
wait_ends start before rest pair contents h =
    let all = before ++ pair ∷ [] in
    let next : step (so_far start before) pair ≡ ready start (contents_from contents all) = wait_step start before pair
    ∙ ap (λ (o : Option Contents). arrived (so_far start before) (record { held = held_all all; assembly = assembled (entries_of all) }) o) h
    ∙ ap (λ (c : Contents). ready start c) (held_is contents [] all) in
    ap (λ (s : ReplicaState). shown (fold step s rest)) next ∙ ap (λ (s : ReplicaState). shown s) (ready_all start (contents_from contents all) rest)
    ∙ ap (λ (c : Contents). Some c) (fold_append contents_with contents all rest)

-- it ends none
wait_on : (start : ℕ) (before rest : List (ℕ × Entry)) (pair : ℕ × Entry) → snapshot_for start (message_at (entries_of (before ++ pair ∷ []))) ≡ None
    → fold step (so_far start before) (pair ∷ rest) ≡ fold step (so_far start (before ++ pair ∷ [])) rest
wait_on start before rest pair h =
    let all = before ++ pair ∷ [] in
    ap (λ (s : ReplicaState). fold step s rest) (wait_step start before pair
    ∙ ap (λ (o : Option Contents). arrived (so_far start before) (record { held = held_all all; assembly = assembled (entries_of all) }) o) h)

-- what the definition says where an entry is the first that is left
first_more : (start : ℕ) (before rest : List (ℕ × Entry)) (pair : ℕ × Entry) (o : Option Contents)
    → snapshot_for start (message_at (entries_of (before ++ pair ∷ []))) ≡ o
    → first_snapshot_after start (entries_of before) (entries_of (pair ∷ rest)) ≡ or_else o (first_snapshot_after start (entries_of (before ++ pair ∷ [])) (entries_of rest))
first_more start before rest pair o h =
    ap (λ (es : List Entry). or_else (snapshot_for start (message_at es)) (first_snapshot_after start es (entries_of rest))) (sym (entries_push before pair))
    ∙ ap (λ (x : Option Contents). or_else x (first_snapshot_after start (entries_of (before ++ pair ∷ [])) (entries_of rest))) h

joined : (before rest : List (ℕ × Entry)) (pair : ℕ × Entry) → before ++ pair ∷ [] ++ rest ≡ before ++ pair ∷ rest
joined before rest pair = append_assoc before (pair ∷ []) rest

wait_more : (start : ℕ) (before rest : List (ℕ × Entry)) (pair : ℕ × Entry) (o : Option Contents)
    → snapshot_for start (message_at (entries_of (before ++ pair ∷ []))) ≡ o
    → shown (fold step (so_far start (before ++ pair ∷ [])) rest)
    ≡ option_map (λ c. contents_from c (before ++ pair ∷ [] ++ rest)) (first_snapshot_after start (entries_of (before ++ pair ∷ [])) (entries_of rest))
    → shown (fold step (so_far start before) (pair ∷ rest))
    ≡ option_map (λ c. contents_from c (before ++ pair ∷ rest)) (first_snapshot_after start (entries_of before) (entries_of (pair ∷ rest)))
wait_more start before rest pair None h later =
    ap (λ (s : ReplicaState). shown s) (wait_on start before rest pair h) ∙ later
    ∙ ap (λ (xs : List (ℕ × Entry)). option_map (λ c. contents_from c xs) (first_snapshot_after start (entries_of (before ++ pair ∷ [])) (entries_of rest)))
    (joined before rest pair)
    ∙ ap (λ (x : Option Contents). option_map (λ c. contents_from c (before ++ pair ∷ rest)) x) (sym (first_more start before rest pair None h))
wait_more start before rest pair (Some contents) h later =
    wait_ends start before rest pair contents h
    ∙ ap (λ (xs : List (ℕ × Entry)). Some (contents_from contents xs)) (joined before rest pair)
    ∙ ap (λ (x : Option Contents). option_map (λ c. contents_from c (before ++ pair ∷ rest)) x) (sym (first_more start before rest pair (Some contents) h))

wait_all : (start : ℕ) (before rest : List (ℕ × Entry)) → shown (fold step (so_far start before) rest)
    ≡ option_map (λ c. contents_from c (before ++ rest)) (first_snapshot_after start (entries_of before) (entries_of rest))
wait_all start before [] = refl
wait_all start before (pair ∷ rest) =
    wait_more start before rest pair (snapshot_for start (message_at (entries_of (before ++ pair ∷ [])))) refl (wait_all start (before ++ pair ∷ []) rest)

show_by : (start : ℕ) (pairs : List (ℕ × Entry)) (b : Bool) → shown (fold step (record {
  start = start;
  waiting = cond b None (Some begin_waiting);
  contents = [];
}) pairs)
    ≡ cond b (Some (contents_from [] pairs)) (option_map (λ c. contents_from c pairs) (first_snapshot_after start [] (entries_of pairs)))
show_by start pairs true = ap (λ (s : ReplicaState). shown s) (ready_all start [] pairs)
show_by start pairs false = wait_all start [] pairs

pub replicas_show : ReplicasShow
unfolding replica_contents first_snapshot
replicas_show start pairs = show_by start pairs (start == 1)
