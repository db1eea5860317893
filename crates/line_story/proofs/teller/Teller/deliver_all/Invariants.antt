use Rattle.std.proofs.Common.{◌≡◌}
use Rattle.std.specs.Prelude.{option_copied}
use Rattle.line_story.specs.Telling.{IsReady, SameTask}
use Rattle.line_story.proofs.Runs.{Far}
use Rattle.line_story.proofs.teller.Teller.deliver_all.Given as goal

abbrev pub invariant-loop-made : goal.invariant-loop-made
invariant-loop-made g l = record {
  far : Far l.initial.self.model.problem.now l.most (g.C.Choices.answers l.initial.choices) l.initial.self.file.now (option_copied l.initial.self.model.order) l._made (g.C.Choices.answers l.choices) l.self.network (g.F.Folder.place l.initial.folder) (g.F.Folder.place l.folder);
  ready : IsReady l.self;
  same : SameTask l.initial.self l.self;
  created : (g.F.Folder.place l.folder).created ≡ (g.F.Folder.place l.initial.folder).created;
}
