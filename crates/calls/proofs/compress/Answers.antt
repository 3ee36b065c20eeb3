-- refused by its query or its tests, with the record as it came; or the rule
use Rattle.std.proofs.Common.{refl, ap, ◌∙◌, rules, [], ◌∷◌}
use Rattle.rules.specs.Hmac.{chain_room}
use Rattle.rules.proofs.Calls.{refused_asked, refused, done}
use Rattle.rules.proofs.Codes.{compress_by, standard_by}
use Rattle.rules.proofs.Tested.{block_ready, compress_needs}
use Rattle.calls.proofs.compress.Goals as goal

pub returns-in_err-need : goal.returns-in_err-need
returns-in_err-need c =
    compress_by 32 c.args.code _ c.from-algorithm.result _ _ _ c.from-algorithm.ensures
    (refused_asked (_ ∷ []) _ _ _ _ _ _ _ c.in_err-need.ensures c.from_residual.ensures.1)

pub returns-in_err-compressing : goal.returns-in_err-compressing
returns-in_err-compressing c =
    let asked = c.in_ok-need.ensures in
    let whole = c.requires ∙ ap chain_room (standard_by 32 c.args.code _ c.from-algorithm.ensures) in
    compress_by 32 c.args.code _ c.from-algorithm.result _ _ _ c.from-algorithm.ensures
    (refused _ _ _ _ _ _ c.in_err-compressing.ensures (λ h. search compress_needs) _ _ refl
    c.from_residual-in_err-compressing.ensures.1)

pub compress_record-requires : goal.compress_record-requires
compress_record-requires c =
    let p = block_ready c.in_ok-need.ensures c.in_ok-compressing.ensures refl in
    search rules

pub returns : goal.returns
returns c =
    let asked = c.in_ok-need.ensures in
    let whole = c.requires ∙ ap chain_room (standard_by 32 c.args.code _ c.from-algorithm.ensures) in
    let is = c.in_ok-compressing.ensures in
    compress_by 32 c.args.code _ c.from-algorithm.result _ _ _ c.from-algorithm.ensures (search (done, compress_needs))
