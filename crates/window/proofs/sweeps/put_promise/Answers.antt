use Rattle.window.specs.Acts.{promise}
use Rattle.window.specs.Laws.{put_one}
use Rattle.window.proofs.sweeps.put_promise.Goals as goal

pub returns : goal.returns
returns c =
    put_one _ _ c.requires (promise c.args.slot c.args.ballot) _ c.put_action.ensures
