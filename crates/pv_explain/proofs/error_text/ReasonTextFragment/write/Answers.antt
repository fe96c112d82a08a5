use Rattle.pv_explain.proofs.error_text.ReasonTextFragment.write.Goals as goal

pub returns-in-NoDescriptor : goal.returns-in-NoDescriptor
returns-in-NoDescriptor g c = rw c.in-NoDescriptor.is c.write_no_descriptor.ensures

pub returns-in-Opened : goal.returns-in-Opened
returns-in-Opened g c = rw c.in-Opened.is c.write_opened.ensures

pub returns-in-Keyword : goal.returns-in-Keyword
returns-in-Keyword g c = rw c.in-Keyword.is c.write_keyword.ensures

pub returns-in-Permission : goal.returns-in-Permission
returns-in-Permission g c = rw c.in-Permission.is c.write_permission.ensures
