use Rattle.st_script_shared.proofs.SharedPlays.{absent_stands, absent_text, there_stands, there_text}
use Rattle.st_script_shared.proofs.shared_script.SharedScriptScript.play.Goals as goal

pub returns-in-Some-clause-text : goal.returns-in-Some-clause-text
returns-in-Some-clause-text c = λ s h.
    absent_text c.absent_line.result s c.args.event c.args.self.now.clients c.in-Some.client c.args.text.now.items c.absent_line.new.text.items _ h.0 c.in-Some.ensures.absent
    c.absent_line.ensures

pub returns-in-Some-clause-stands : goal.returns-in-Some-clause-stands
returns-in-Some-clause-stands c = λ s h.
    absent_stands c.absent_line.result s c.args.event c.args.self.now.clients c.args.self.now.file c.in-Some.client h.0 h.1 c.in-Some.ensures.absent

pub returns-in-None-clause-text : goal.returns-in-None-clause-text
returns-in-None-clause-text c = λ s h.
    there_text c.play_there.result s c.args.event c.args.self.now.clients c.args.self.now.file c.args.text.now.items c.play_there.new.text.items _ h.0 h.1 c.in-None.ensures.absent
    c.play_there.ensures.text

pub returns-in-None-clause-stands : goal.returns-in-None-clause-stands
returns-in-None-clause-stands c = λ s h.
    there_stands c.play_there.result s c.args.event c.args.self.now.clients c.args.self.now.file c.play_there.new.file h.0 h.1 c.in-None.ensures.absent
    c.play_there.ensures.stands
