use Rattle.acd_codec.proofs.requests.put_members.Goals as goal

pub returns-in-Group : goal.returns-in-Group
returns-in-Group c = rw c.in-Group.is c.put_at_group.ensures

pub returns-in-Agent : goal.returns-in-Agent
returns-in-Agent c = rw c.in-Agent.is c.put_at_agent.ensures

pub returns-in-Arrival : goal.returns-in-Arrival
returns-in-Arrival c = rw c.in-Arrival.is c.put_arrive_call.ensures

pub returns-in-Making : goal.returns-in-Making
returns-in-Making c = rw c.in-Making.is c.put_make_call.ensures

pub returns-in-Connection : goal.returns-in-Connection
returns-in-Connection c = rw c.in-Connection.is c.put_at_connection.ensures

pub returns-in-Transfer : goal.returns-in-Transfer
returns-in-Transfer c = rw c.in-Transfer.is c.put_to_device.ensures

pub returns-in-Priority : goal.returns-in-Priority
returns-in-Priority c = rw c.in-Priority.is c.put_set_group_priority.ensures
