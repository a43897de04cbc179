use Rattle.st_script_shared.proofs.SharedPlays.{last_written}
use Rattle.st_script_shared.proofs.shared_script.SharedScriptScript.finish.Goals as goal

pub returns : goal.returns
returns c = λ s h.
    last_written c.put_last.result s c.args.self.now.file c.args.text.now.items c.put_last.new.text.items c.args.events c.commands.result h.1 c.commands.ensures c.put_last.ensures
