use Rattle.std.proofs.Common.{refl, sym, ◌∙◌}
use Rattle.board.proofs.ReadBack.{read_back}
use Rattle.board.proofs.pump.PumpBoard.mark_and_look.Goals as goal

pub returns-clause-read_back : goal.returns-clause-read_back
returns-clause-read_back c =
    let p = c.args.self.now in
    λ lt none. rw (sym c.exchange_in_place.ensures.ran.gave ∙ read_back p.board c.args.slot c.args.holder lt p.eight none) refl
