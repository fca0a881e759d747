use Rattle.am_node_calls.proofs.Words.{◌≡◌, ◌+◌, sym, ap, ◌∙◌, subst, Entry, Data, fits, image_of_node, push_entry, NodeKeeps, node_of}
use Rattle.am_node_calls.proofs.Emits.{own_data_fits_image, node_keeps_by_own_data}
use Rattle.am_node_calls.proofs.emitting.number_send.Goals as goal

pub push-requires-clause-fits : goal.push-requires-clause-fits
push-requires-clause-fits c =
    let m = (node_of c.args.parts.now) in
    let is : c.of-entry.result ≡ Data m.core.who c.args.send.now.req c.args.send.now.body = c.of-entry.ensures
    ∙ ap (Data c.name.result c.args.send.now.req) c.as_ref.ensures ∙ ap (λ who. Data who c.args.send.now.req c.args.send.now.body) c.name.ensures.value in
    ap (λ e. fits (image_of_node m) e) is ∙ own_data_fits_image m c.args.send.now.req c.args.send.now.body c.args.parts.now.keeps c.requires.leads c.requires.waits
    c.requires.new

pub push-requires-clause-keeps : goal.push-requires-clause-keeps
push-requires-clause-keeps c =
    let m = (node_of c.args.parts.now) in
    let is : c.of-entry.result ≡ Data m.core.who c.args.send.now.req c.args.send.now.body = c.of-entry.ensures
    ∙ ap (Data c.name.result c.args.send.now.req) c.as_ref.ensures ∙ ap (λ who. Data who c.args.send.now.req c.args.send.now.body) c.name.ensures.value in
    subst (λ (e : Entry). NodeKeeps (push_entry m e)) (sym is) (node_keeps_by_own_data m
    (m.core.rules.window + 15) c.args.send.now.req c.args.send.now.body c.args.parts.now.keeps c.next_number-number.ensures.kept c.requires.leads
    (own_data_fits_image m c.args.send.now.req c.args.send.now.body c.args.parts.now.keeps c.requires.leads c.requires.waits c.requires.new))
