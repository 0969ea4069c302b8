use Rattle.std.proofs.Common.{arith, rules}
use Rattle.std.proofs.lemmas.Result.{IfOk-weaker, IfErr-weaker}
use Rattle.assembler.proofs.{Assemblies.line-fault, Assemblies.listed-made, Listings.lists-instructions}
use Rattle.assembler.proofs.assembly.assemble.Goals as goal

pub returns-clause-refused : goal.returns-clause-refused
returns-clause-refused c =
    IfErr-weaker c.assemble_lines.result _ _ (λ f given differs. line-fault c.args.source.now c.as_bytes.result.now c.in_ok-lines.lines.items f (search rules) (omega arith) c.in_ok-lines.ensures.exact given differs) c.assemble_lines.ensures.err

pub returns-clause-listed : goal.returns-clause-listed
returns-clause-listed c = IfOk-weaker c.assemble_lines.result _ _ (λ r made. listed-made c.as_bytes.result.now c.in_ok-lines.lines.items r.0 r.1 made) c.assemble_lines.ensures.ok

pub returns-clause-meant : goal.returns-clause-meant
returns-clause-meant c = IfOk-weaker c.assemble_lines.result _ _ (λ r made. lists-instructions c.args.source.now c.as_bytes.result.now c.in_ok-lines.lines.items r.0 r.1 (search rules) c.in_ok-lines.ensures.exact c.one_reading.ensures.lines made) c.assemble_lines.ensures.ok
